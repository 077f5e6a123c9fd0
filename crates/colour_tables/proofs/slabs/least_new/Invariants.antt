use Rattle.std.proofs.Common.{ℕ, ℤ, List, take, length, neg_ℤ}
use Rattle.mill_model.specs.declared.order.Order.{Order}
use Rattle.set_minima.specs.Packs.{IsTop}
use Rattle.set_minima.specs.Joins.{gain}
use Rattle.set_minima.specs.Cells.{found}
use Rattle.colour_tables.specs.Leasts.{AreCharged}
use Rattle.colour_tables.specs.Leasts.{IsRoom, MakesSome}
use Rattle.colour_tables.specs.Rowed.{AreRows}
use Rattle.colour_tables.specs.Owned.{AreRuns}
use Rattle.colour_tables.proofs.slabs.least_new.Given as goal

abbrev pub invariant-loop-t : goal.invariant-loop-t
invariant-loop-t l =
    (rest : List Order) (prices : List ℤ) (name : ℕ → ℕ) (charge : ℕ → ℕ) (largest : ℕ) →
    AreRows rest prices name l.rows → AreRuns rest prices name l.rows.present.items l.runs →
    IsRoom largest 0 (length l.fn.table) →
    AreCharged charge 0 (length l.fn.table) l.charges →
    IsTop (MakesSome rest name largest (take l.t l.rows.present.items))
    (gain charge 0 rest prices) (found (neg_ℤ l.least))
