-- The keys of the live groups in order decide whether these are the same, and what is seen of the
-- live groups whether the live keys are.
use Rattle.std.proofs.Common.{◌∙◌, ap₂, drop, length, subst}
use Rattle.log_checker.specs.ByRules.{mill_by}
use Rattle.log_checker.specs.Groups.{AreGroups}
use Rattle.log_checker.specs.Keys.{AreSorted, same_keys}
use Rattle.log_checker.specs.PathGroups.{later}
use Rattle.log_checker.specs.declared.rules.Rules.{Rules}
use Rattle.log_checker.proofs.KeysDecide.{keys-decide, low-from}
use Rattle.log_checker.proofs.LiveGroups.{key-seen}
use Rattle.log_checker.proofs.keys.same_live_key.Goals as goal

pub returns : goal.returns
returns c =
    let its = c.args.path.now in
    let other = c.args.other.now in
    let mill = mill_by its.rules.now in
    let ranked = its.rules.now.ranked.items in
    let grouped : AreGroups other.groups.items other.path.now ranked =
    subst (λ (rules : Rules). AreGroups other.groups.items other.path.now rules.ranked.items)
    c.requires.rules other.grouped in
    let sorted : AreSorted mill (later its) other.groups.items c.in_ok-b.b.items =
    subst (λ n. AreSorted mill (drop n ranked) other.groups.items c.in_ok-b.b.items)
    c.requires.same (subst (λ (rules : Rules). AreSorted (mill_by rules)
    (drop (length other.path.now) rules.ranked.items) other.groups.items c.in_ok-b.b.items)
    c.requires.rules c.in_ok-b.ensures) in
    c.same_keys.ensures
    ∙ ap₂ (λ x y. same_keys x y) c.deref.ensures.value c.deref-2.ensures.value
    ∙ keys-decide (later its) (low-from (length its.path.now) ranked its.rules.now.setting.orders)
    mill its.groups.items other.groups.items c.in_ok-a.a.items c.in_ok-b.b.items c.in_ok-a.ensures
    sorted
    ∙ key-seen mill ranked its.groups.items other.groups.items its.path.now other.path.now
    its.grouped grouped c.requires.same
