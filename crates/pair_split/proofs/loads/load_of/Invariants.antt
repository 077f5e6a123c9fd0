use Rattle.std.proofs.Common.{◌≡◌, ◌+◌, ◌*◌, ◌^◌, ◌≤◌, drop}
use Rattle.mill_model.specs.Slab.{load}
use Rattle.pair_split.proofs.loads.load_of.Given as goal

abbrev pub invariant-loop-order : goal.invariant-loop-order
invariant-loop-order l = record {
  is : l.sum + load (drop l.order-index l.orders) ≡ load l.orders;
  small : l.sum ≤ l.order-index * 2 ^ 32;
}
