use Rattle.std.proofs.Common.{◌≡◌, ◌+◌, ◌*◌, ◌≤◌, drop}
use Rattle.mill_model.specs.Slab.{load}
use Rattle.least_slacks.proofs.later_orders.weight_of.Given as goal

abbrev pub invariant-loop-order : goal.invariant-loop-order
invariant-loop-order l = record {
  is : load l.rest ≡ l.weight + load (drop l.order-index l.rest);
  small : l.weight ≤ l.order-index * 1000000;
}
