use Rattle.std.proofs.Common.{◌≡◌, ◌+◌, drop}
use Rattle.mill_model.specs.Instance.{IsInstance}
use Rattle.mill_model.specs.Slab.{load}
use Rattle.instance_drill.proofs.weight.whole_weight.Given as goal

abbrev pub invariant-loop-order : goal.invariant-loop-order
invariant-loop-order l = record {
  sum : l.weight + load (drop l.order-index l.instance.orders) ≡ load l.instance.orders;
  kept : IsInstance l.instance;
}
