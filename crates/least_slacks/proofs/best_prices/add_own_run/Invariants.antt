use Rattle.std.proofs.Common.{◌≡◌, ℕ, List, ◌+◌, ◌-◌, ◌*◌, true, length}
use Rattle.list_laws.specs.Sets.{holds}
use Rattle.set_minima.specs.Cells.{cell, AreNear}
use Rattle.least_slacks.specs.Items.{item_at}
use Rattle.least_slacks.specs.Later.{joined_to, HaveSame, IsTableOf}
use Rattle.mill_model.specs.declared.prices.TheConstants.{MAX_PRICE}
use Rattle.least_slacks.proofs.best_prices.add_own_run.Given as goal

abbrev pub invariant-loop-t : goal.invariant-loop-t
invariant-loop-t l = record {
  best :
      (out own : List ℕ) (k : ℕ) → HaveSame l.later own out →
      holds (item_at l.later.items.now l.at).colour out ≡ true →
      IsTableOf l.later (joined_to l.later out l.at) own k
      (length l.initial.table) (cell l.initial.table) →
      IsTableOf l.later (joined_to l.later out l.t) own k
      (length l.initial.table) (cell l.table);
  near :
      (n : ℕ) → AreNear n l.initial.table → AreNear (n + (l.t - l.at) * MAX_PRICE) l.table;
}
