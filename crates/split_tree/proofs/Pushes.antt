-- The groups of a path with one more number.
use Rattle.std.proofs.Common.{ℕ, zero, suc, ◌≡◌, false, List, [], ◌∷◌, ◌++◌, length}
use Rattle.std.proofs.Common.{drop, eqb, Some, refl, ap, ◌∙◌, eq-eqb}
use Rattle.std.proofs.Common.{append-nil}
use Rattle.std.specs.List.{slice_get}
use Rattle.mill_model.specs.Plan.{slab}
use Rattle.mill_model.specs.declared.order.Order.{Order}
use Rattle.mill_model.proofs.Slabs.{slab-append}

-- the order at a place is the first of those from there on
pub drop-get : {X : Type 0} (xs : List X) (k : ℕ) (x : X) → slice_get xs k ≡ Some x →
    drop k xs ≡ x ∷ drop (suc k) xs
drop-get [] k x e = absurd (cc)
drop-get (y ∷ xs) zero x e = let same : y ≡ x = cc in ap (λ z. z ∷ xs) same
drop-get (y ∷ xs) (suc k) x e = drop-get xs k x e

module _ (path : List ℕ) (orders : List Order) (g : ℕ) (order : Order)
    (next : slice_get orders (length path) ≡ Some order) where
  pub slab-same : slab g (path ++ g ∷ []) orders ≡ slab g path orders ++ order ∷ []
  slab-same =
      slab-append g path (g ∷ []) orders ∙ ap (λ xs. slab g path orders
      ++ slab g (g ∷ []) xs) (drop-get orders (length path) order next)
      ∙ rw (eq-eqb g g refl) refl

  pub slab-other : (s : ℕ) → eqb s g ≡ false → slab s (path ++ g ∷ []) orders ≡ slab s path orders
  slab-other s e =
      slab-append s path (g ∷ []) orders ∙ ap (λ xs. slab s path orders
      ++ slab s (g ∷ []) xs) (drop-get orders (length path) order next)
      ∙ rw (e, append-nil) refl
