use Rattle.std.proofs.Common.{◌≡◌, false, true, refl, subst}
use Rattle.mill_model.specs.LiveKey.{same_live_key, dead_loss}
use Rattle.log_checker.specs.ByRules.{mill_by, charge_by}
use Rattle.log_checker.specs.declared.rules.Rules.{Rules}
use Rattle.log_checker.proofs.dominated.is_carried.Goals as goal

pub returns-then-not-branch : goal.returns-then-not-branch
returns-then-not-branch c =
    let its = c.args.path.now in
    let key : same_live_key (mill_by its.rules.now) its.rules.now.ranked.items its.path.now
    c.args.other.now.path.now ≡ false =
    rw (← c.in_ok-same_live_key.ensures) c.if-not-branch.true in
    rw key refl

pub returns : goal.returns
returns c =
    let its = c.args.path.now in
    let other = c.args.other.now in
    let key : same_live_key (mill_by its.rules.now) its.rules.now.ranked.items its.path.now
    other.path.now ≡ true =
    rw (← c.in_ok-same_live_key.ensures) c.if-not-branch.false in
    let dead : c.dead_charge-other_dead.result ≡ dead_loss (mill_by its.rules.now)
    (charge_by its.rules.now) its.rules.now.ranked.items other.path.now =
    subst (λ (rules : Rules). c.dead_charge-other_dead.result ≡ dead_loss (mill_by rules)
    (charge_by rules) rules.ranked.items other.path.now) c.requires.rules
    c.dead_charge-other_dead.ensures in
    rw (key, c.dead_charge-dead.ensures, dead) refl
