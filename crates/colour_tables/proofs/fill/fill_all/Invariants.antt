use Rattle.std.proofs.Common.{ℕ, ℤ, List, ◌≡◌, ◌<◌, ◌∷◌, [], true, take, length, pos}
use Rattle.list_laws.specs.Sets.{holds}
use Rattle.mill_model.specs.declared.order.Order.{Order}
use Rattle.set_minima.specs.Packs.{IsTable}
use Rattle.colour_tables.specs.Entries.{entry}
use Rattle.set_minima.specs.Cells.{found, AreNear}
use Rattle.colour_tables.specs.Threes.{row_entry, column, three}
use Rattle.colour_tables.specs.Colours.{of_colour}
use Rattle.colour_tables.specs.Owned.{AreRuns}
use Rattle.colour_tables.proofs.fill.fill_all.Given as goal
use Rattle.colour_tables.specs.Entries.{row_limit}

abbrev pub invariant-loop-t : goal.invariant-loop-t
invariant-loop-t l = record {
  rows :
      (rest : List Order) (prices : List ℤ) (name : ℕ → ℕ) →
      AreRuns rest prices name l.present l.runs →
      (c : ℕ) → holds c (take l.t l.present) ≡ true →
      IsTable (of_colour rest (name c)) (name c ∷ []) 1 rest prices (length l.fn.best)
      (λ i. found (row_entry l.rows (length l.fn.best) i c));
  tops :
      (k : ℕ) → 0 < k → k < length l.fn.best → column l.best l.second l.third k ≡
      three (row_entry l.rows (length l.fn.best) k) (take l.t l.present);
  first : entry l.best 0 ≡ pos 0;
  near : AreNear row_limit l.rows;
}
