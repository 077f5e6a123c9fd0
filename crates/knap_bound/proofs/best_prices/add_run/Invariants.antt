use Rattle.std.proofs.Common.{ℕ, ◌+◌, ◌-◌, ◌*◌, List, [], ◌∷◌, length}
use Rattle.set_minima.specs.Cells.{cell, AreNear}
use Rattle.knap_bound.specs.Packing.{let_to, IsRunOf, IsTableOf}
use Rattle.mill_model.specs.declared.prices.TheConstants.{MAX_PRICE}
use Rattle.knap_bound.proofs.best_prices.add_run.Given as goal

abbrev pub invariant-loop-t : goal.invariant-loop-t
invariant-loop-t l = record {
  best :
      (out : List ℕ) (colour k : ℕ) → IsRunOf l.packing out l.at l.end colour →
      IsTableOf l.packing (let_to l.packing out l.at) (colour ∷ []) k
      (length l.initial.table) (cell l.initial.table) →
      IsTableOf l.packing (let_to l.packing out l.t) (colour ∷ []) k
      (length l.initial.table) (cell l.table);
  near :
      (n : ℕ) → AreNear n l.initial.table → AreNear (n + (l.t - l.at) * MAX_PRICE) l.table;
}
