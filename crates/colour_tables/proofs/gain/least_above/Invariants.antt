use Rattle.std.proofs.Common.{ℕ, ℤ, List, Bool, length, neg_ℤ}
use Rattle.mill_model.specs.declared.order.Order.{Order}
use Rattle.set_minima.specs.Packs.{IsTable, IsTop}
use Rattle.set_minima.specs.Joins.{gain, Packed}
use Rattle.set_minima.specs.Cells.{cell, found}
use Rattle.colour_tables.specs.Leasts.{AreCharged}
use Rattle.colour_tables.proofs.gain.least_above.Given as goal

abbrev pub invariant-loop-l : goal.invariant-loop-l
invariant-loop-l l =
    (allowed : ℕ → Bool) (own : List ℕ) (k : ℕ) (rest : List Order) (prices : List ℤ)
    (charge : ℕ → ℕ) (base : ℕ) → AreCharged charge base (length l.table) l.charges →
    IsTable allowed own k rest prices (length l.table) (cell l.table) →
    IsTop (Packed allowed own k rest 1 l.l) (gain charge base rest prices)
    (found (neg_ℤ l.least))
