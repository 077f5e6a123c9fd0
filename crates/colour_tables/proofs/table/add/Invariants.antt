use Rattle.std.proofs.Common.{ℕ, ◌≡◌, ◌+◌, ◌-◌, ◌*◌, ◌<◌, ◌≤◌, length}
use Rattle.set_minima.specs.Packs.{better, with_price}
use Rattle.colour_tables.specs.Entries.{entry}
use Rattle.set_minima.specs.Cells.{cell, AreNear}
use Rattle.colour_tables.proofs.table.add.Given as goal
use Rattle.mill_model.specs.declared.prices.TheConstants.{MAX_PRICE}

abbrev pub invariant-loop-i : goal.invariant-loop-i
invariant-loop-i l = record {
  done : (k : ℕ) → length l.table - 4 * l.i ≤ k → k < length l.table → cell l.table k ≡
      better (cell l.fn.table k) (with_price l.price (cell l.fn.table (k - l.weight)));
  old : (k : ℕ) → k < length l.table - 4 * l.i → entry l.table k ≡ entry l.fn.table k;
  near : (n : ℕ) → AreNear n l.fn.table → AreNear (n + MAX_PRICE) l.table;
}
