use Rattle.std.proofs.Common.{◌≡◌}
use Rattle.mill_model.specs.Charges.{charge_of}
use Rattle.mill_model.specs.Bounds.{sweep}
use Rattle.order_symmetry.specs.Ranked.{orders_of}
use Rattle.column_price.specs.Nodes.{AreSlacks, with_prices}
use Rattle.column_price.proofs.sweep.sweep.Given as goal

abbrev pub invariant-loop-i : goal.invariant-loop-i
invariant-loop-i l = record {
  swept : l.slacks ≡ with_prices l.fn.slacks (sweep l.fn.slacks.node.ranked.mill
      (charge_of l.fn.slacks.charges) (orders_of l.fn.slacks.node.ranked) l.fn.slacks.node.path
      l.fn.slacks.prices l.i);
  groups : AreSlacks l.fn.slacks.node (charge_of l.fn.slacks.charges) l.slacks.prices l.groups;
}
