use Rattle.std.proofs.Common.{take}
use Rattle.mill_model.specs.Instance.{largest}
use Rattle.mill_model.specs.Heavy.{NoneHeavy}
use Rattle.instance_facts.proofs.heavy.first_heavy.Given as goal

abbrev pub invariant-loop-place : goal.invariant-loop-place
invariant-loop-place l =
    NoneHeavy (largest l.instance.sizes) (take l.place l.instance.orders)
