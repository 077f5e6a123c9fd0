use Rattle.std.proofs.Common.{ℕ, ◌+◌, ◌-◌, ◌*◌, [], ◌∷◌, length}
use Rattle.set_minima.specs.Cells.{cell, AreNear}
use Rattle.least_slacks.specs.Items.{Letting}
use Rattle.least_slacks.specs.Later.{let_to, IsRunOf, IsTableOf}
use Rattle.mill_model.specs.declared.prices.TheConstants.{MAX_PRICE}
use Rattle.least_slacks.proofs.best_prices.add_run.Given as goal

abbrev pub invariant-loop-t : goal.invariant-loop-t
invariant-loop-t l = record {
  best :
      (letting : Letting) (colour k : ℕ) → IsRunOf l.later letting l.at l.end colour →
      IsTableOf l.later (let_to l.later letting l.at) (colour ∷ []) k
      (length l.initial.table) (cell l.initial.table) →
      IsTableOf l.later (let_to l.later letting l.t) (colour ∷ []) k
      (length l.initial.table) (cell l.table);
  near :
      (n : ℕ) → AreNear n l.initial.table → AreNear (n + (l.t - l.at) * MAX_PRICE) l.table;
}
