use Rattle.std.proofs.Common.{◌≡◌}
use Rattle.mill_model.specs.Charges.{charge_of}
use Rattle.mill_model.specs.Bounds.{least_of}
use Rattle.column_price.specs.Numbers.{ascent_numbers}
use Rattle.column_price.proofs.ascent.ascent_price.Given as goal

abbrev pub invariant-loop-g : goal.invariant-loop-g
invariant-loop-g l = record {
  kept : l.slacks ≡ l.fn.slacks;
  best : l.best ≡ least_of (ascent_numbers l.fn.slacks.node (charge_of l.fn.slacks.charges)
      l.fn.slacks.prices l.i l.g);
}
