use Rattle.std.proofs.Common.{◌≡◌, ◌≤◌, ◌*◌}
use Rattle.mill_model.specs.Charges.{charge_of}
use Rattle.split_tree.proofs.LiveGroups.{dead_below}
use Rattle.split_tree.proofs.node.NodeState.dead_loss.Given as goal

abbrev pub invariant-loop-slab : goal.invariant-loop-slab
invariant-loop-slab l = record {
  sum : l.loss ≡ dead_below l.self (charge_of l.charges) l.slab-index;
  most : l.loss ≤ 100000000 * l.slab-index;
}
