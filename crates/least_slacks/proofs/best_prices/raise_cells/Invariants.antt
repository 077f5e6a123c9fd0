use Rattle.std.proofs.Common.{◌≡◌, ℕ, ◌+◌, ◌-◌, ◌<◌, ◌≤◌, ◌⊎◌, slice_index_or, pos}
use Rattle.set_minima.specs.Packs.{better, with_price}
use Rattle.set_minima.specs.Cells.{cell, AreNear}
use Rattle.mill_model.specs.declared.prices.TheConstants.{MAX_PRICE}
use Rattle.least_slacks.proofs.best_prices.raise_cells.Given as goal

abbrev pub invariant-loop-l : goal.invariant-loop-l
invariant-loop-l l = record {
  done :
      (k : ℕ) → l.weight ≤ k → k < l.l → cell l.tables (l.at + k) ≡
      better (cell l.initial.tables (l.at + k))
      (with_price l.price (cell l.initial.tables (l.from + (k - l.weight))));
  other :
      (i : ℕ) → i < l.at + l.weight ⊎ l.at + l.l ≤ i →
      slice_index_or l.tables i (pos 0) ≡ slice_index_or l.initial.tables i (pos 0);
  ends : l.l ≤ l.width ⊎ l.l ≤ l.weight;
  near : (n : ℕ) → AreNear n l.initial.tables → AreNear (n + MAX_PRICE) l.tables;
}
