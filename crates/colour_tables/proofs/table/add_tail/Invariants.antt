use Rattle.std.proofs.Common.{◌≡◌, ℕ, ◌+◌, ◌-◌, ◌<◌, ◌≤◌, leb, cond, length, slice_index_or, pos}
use Rattle.set_minima.specs.Packs.{better, with_price}
use Rattle.set_minima.specs.Cells.{cell, AreNear}
use Rattle.colour_tables.proofs.table.add_tail.Given as goal
use Rattle.mill_model.specs.declared.prices.TheConstants.{MAX_PRICE}

abbrev pub invariant-loop-l : goal.invariant-loop-l
invariant-loop-l l = record {
  done :
      (k : ℕ) → l.l ≤ k → k < length l.table → cell l.table k ≡
      cond (leb l.weight k)
      (better (cell l.initial.table k) (with_price l.price (cell l.initial.table (k - l.weight))))
      (cell l.initial.table k);
  old : (k : ℕ) → k < l.l →
      slice_index_or l.table k (pos 0) ≡ slice_index_or l.initial.table k (pos 0);
  near : (n : ℕ) → AreNear n l.initial.table → AreNear (n + MAX_PRICE) l.table;
}
