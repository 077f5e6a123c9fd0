-- Each charge is small, also past the last one.
use Rattle.std.proofs.Common.{ℕ, ◌≤◌, List, length, get_or, All, inl, inr, arith}
use Rattle.std.proofs.lemmas.Bool.{cases_lt}
use Rattle.std.proofs.lemmas.List.{get_or_past}
use Rattle.mill_model.specs.declared.charges.TheConstants.{MAX_CHARGE}

pub charge-small : (charges : List ℕ) → All (λ charge. charge ≤ MAX_CHARGE) charges →
    (load : ℕ) → get_or charges load 0 ≤ MAX_CHARGE
charge-small charges small load = elim (cases_lt load (length charges)) [
  | inl b ↦ small load 0 b
  | inr b ↦ rw (get_or_past charges load 0 b) (omega arith)
]
