-- Prices of which one is set anew are as small as before.
use Rattle.std.proofs.Common.{ℕ, zero, suc, refl, ap, ◌≤◌, ◌≡◌, List, [], ◌∷◌, length, set, ℤ, eqb}
use Rattle.std.proofs.Common.{eqb-true, sym, subst, arith, inl, inr}
use Rattle.std.proofs.lemmas.Bool.{cases_lt}
use Rattle.list_laws.proofs.Tests.{either}
use Rattle.set_minima.specs.Cells.{IsSmall}
use Rattle.set_minima.proofs.OneCell.{differ}
use Rattle.colour_tables.specs.Entries.{AreSmallAll, entry}
use Rattle.colour_tables.proofs.LoadsWritten.{set-same, set-other}
use Rattle.mill_model.specs.declared.prices.TheConstants.{MAX_PRICE}

set-past : (xs : List ℤ) (j : ℕ) (v : ℤ) → length xs ≤ j → set xs j v ≡ xs
set-past [] j v h = refl
set-past (x ∷ xs) zero v h = absurd (omega arith)
set-past (x ∷ xs) (suc j) v h = ap (λ ys. x ∷ ys) (set-past xs j v (omega arith))

pub small-set : (prices : List ℤ) (j : ℕ) (v : ℤ) → AreSmallAll prices →
    IsSmall MAX_PRICE v → AreSmallAll (set prices j v)
small-set prices j v h s l = elim (cases_lt j (length prices)) [
  | inr b ↦ subst (λ xs. IsSmall MAX_PRICE (entry xs l)) (sym (set-past prices j v b)) (h l)
  | inl b ↦ elim (either (eqb l j)) [
    | inl e ↦ subst (λ k. IsSmall MAX_PRICE (entry (set prices j v) k)) (sym (eqb-true l j e))
        (subst (IsSmall MAX_PRICE) (sym (set-same prices j v b)) s)
    | inr e ↦ subst (IsSmall MAX_PRICE) (sym (set-other prices j l v (differ l j e))) (h l)
  ]
]
