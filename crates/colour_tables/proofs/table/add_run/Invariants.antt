use Rattle.std.proofs.Common.{ℕ, ℤ, List, Bool, ◌+◌, ◌*◌, ◌<◌, ◌≡◌, true, false, length}
use Rattle.list_laws.specs.Sets.{holds}
use Rattle.mill_model.specs.declared.order.Order.{Order}
use Rattle.set_minima.specs.Packs.{IsTable}
use Rattle.set_minima.specs.Cells.{cell, AreNear}
use Rattle.colour_tables.specs.Items.{IsRun, let_in, places}
use Rattle.colour_tables.proofs.table.add_run.Given as goal
use Rattle.mill_model.specs.declared.prices.TheConstants.{MAX_PRICE}

abbrev pub invariant-loop-t : goal.invariant-loop-t
invariant-loop-t l = record {
  best :
      (rest : List Order) (prices : List ℤ) (c : ℕ) → IsRun rest prices c l.run →
      (before : ℕ → Bool) (own : List ℕ) (k : ℕ) → holds c own ≡ true →
      ((i : ℕ) → i < length rest → holds i (places l.run) ≡ true → before i ≡ false) →
      IsTable before own k rest prices (length l.initial.table) (cell l.initial.table) →
      IsTable (let_in before l.run l.skip l.t) own k rest prices (length l.initial.table)
      (cell l.table);
  near : (n : ℕ) → AreNear n l.initial.table → AreNear (n + l.t * MAX_PRICE) l.table;
}
