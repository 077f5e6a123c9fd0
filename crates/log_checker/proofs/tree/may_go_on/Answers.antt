use Rattle.std.proofs.Common.{◌≡◌, length, true, false, sym, ◌∙◌, get_or, refl}
use Rattle.mill_model.specs.Rank.{starts_class_in}
use Rattle.log_checker.specs.Groups.{no_order, nothing_seen, joined, may_be}
use Rattle.log_checker.specs.ByRules.{mill_by}
use Rattle.log_checker.proofs.PathsGoOn.{goes-on-from}
use Rattle.log_checker.proofs.tree.may_go_on.Goals as goal

pub returns-then-starts_class : goal.returns-then-starts_class
returns-then-starts_class c =
    let m : may_be (mill_by c.args.rules.now) (joined (get_or c.args.groups.now c.args.g
    nothing_seen) (get_or c.args.rules.now.ranked.items (length c.args.path.now) no_order))
    ≡ true = rw c.order.ensures.is at (sym c.may_join.ensures ∙ c.if-may_join.true) in
    let s : starts_class_in (length c.args.path.now) c.args.rules.now.ranked.items ≡ true =
    sym c.starts_class.ensures ∙ c.if-starts_class.true in
    c.if-starts_class.true ∙ sym (goes-on-from (mill_by c.args.rules.now) c.args.groups.now
    c.args.rules.now.ranked.items c.args.path.now c.args.g no_order c.requires.seen
    c.requires.within c.requires.near ∙ rw (m, s) refl)

pub returns-else-starts_class : goal.returns-else-starts_class
returns-else-starts_class c =
    let m : may_be (mill_by c.args.rules.now) (joined (get_or c.args.groups.now c.args.g
    nothing_seen) (get_or c.args.rules.now.ranked.items (length c.args.path.now) no_order))
    ≡ true = rw c.order.ensures.is at (sym c.may_join.ensures ∙ c.if-may_join.true) in
    let s : starts_class_in (length c.args.path.now) c.args.rules.now.ranked.items ≡ false =
    sym c.starts_class.ensures ∙ c.if-starts_class.false in
    rw c.last_number.ensures (sym (goes-on-from (mill_by c.args.rules.now) c.args.groups.now
    c.args.rules.now.ranked.items c.args.path.now c.args.g no_order c.requires.seen
    c.requires.within c.requires.near ∙ rw (m, s) refl))

pub returns-else-may_join : goal.returns-else-may_join
returns-else-may_join c =
    let m : may_be (mill_by c.args.rules.now) (joined (get_or c.args.groups.now c.args.g
    nothing_seen) (get_or c.args.rules.now.ranked.items (length c.args.path.now) no_order))
    ≡ false = rw c.order.ensures.is at (sym c.may_join.ensures ∙ c.if-may_join.false) in
    c.if-may_join.false ∙ sym (goes-on-from (mill_by c.args.rules.now) c.args.groups.now
    c.args.rules.now.ranked.items c.args.path.now c.args.g no_order c.requires.seen
    c.requires.within c.requires.near ∙ rw m refl)
