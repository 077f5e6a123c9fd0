-- The ranked orders are those of the instance alone.
use Rattle.std.proofs.Common.{◌≡◌, subst, sym, ◌∙◌}
use Rattle.mill_model.specs.Charges.{charge_of}
use Rattle.mill_model.specs.Instance.{mill_of}
use Rattle.mill_model.specs.Plan.{IsPlanWithLoss}
use Rattle.mill_model.specs.Slab.{Mill}
use Rattle.move_trials.proofs.SameFile.{same-file}
use Rattle.move_trials.proofs.walks.walked.Goals as goal

pub walk-requires-clause-start : goal.walk-requires-clause-start
walk-requires-clause-start c orders placed =
    let same : c.args.instance.now.orders ≡ orders =
    same-file c.args.instance.now.orders orders
    (sym c.in_ok-ranked.ensures.placed ∙ placed) in
    let start = rw c.in-Some.is at c.in_ok-start.ensures in
    subst (λ (mill : Mill). IsPlanWithLoss mill (charge_of c.args.charges.now) orders
    c.in-Some.start.plan c.in-Some.start.loss) (sym c.in_ok-ranked.ensures.mill)
    (subst (λ os. IsPlanWithLoss (mill_of c.args.instance.now) (charge_of c.args.charges.now) os
    c.in-Some.start.plan c.in-Some.start.loss) same start)
