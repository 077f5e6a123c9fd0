use Rattle.std.proofs.Common.{◌≡◌}
use Rattle.mill_model.specs.Charges.{charge_of}
use Rattle.mill_model.specs.Bounds.{ascent}
use Rattle.order_symmetry.specs.Ranked.{orders_of}
use Rattle.column_price.specs.Nodes.{with_prices}
use Rattle.column_price.proofs.ascent.raise.Given as goal

abbrev pub invariant-loop-i : goal.invariant-loop-i
invariant-loop-i l =
    l.slacks ≡ with_prices l.fn.slacks (ascent l.fn.slacks.node.ranked.mill
    (charge_of l.fn.slacks.charges) (orders_of l.fn.slacks.node.ranked) l.fn.slacks.node.path l.i)
