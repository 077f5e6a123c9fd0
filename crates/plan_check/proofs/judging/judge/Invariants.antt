use Rattle.mill_model.specs.Charges.{charge_of}
use Rattle.mill_model.specs.Instance.{mill_of}
use Rattle.plan_check.proofs.Judged.{IsSoFar}
use Rattle.plan_check.proofs.judging.judge.Given as goal

abbrev pub invariant-loop-number : goal.invariant-loop-number
invariant-loop-number l =
    IsSoFar (mill_of l.instance) (charge_of l.charges) l.instance.orders l.plan
    l.number l.loss
