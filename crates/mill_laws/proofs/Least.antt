-- The least of some numbers: it is one of them, and the greatest number that is below all of them.
-- The list may begin with one more (`least`), or may be empty (`least_of`).
use Rattle.std.proofs.Common.{◌≡◌, ◌⊎◌, List, [], ◌∷◌, ℤ, ◌≤ℤ◌, int_lt, refl, sym, ◌∙◌, arith, inl}
use Rattle.std.proofs.Common.{inr, subst}
use Rattle.std.proofs.lemmas.Int.{ints}
use Rattle.std.specs.Int.{int_min}
use Rattle.mill_model.specs.Prices.{least}
use Rattle.mill_model.specs.Bounds.{least_of, or_zero}
use Rattle.list_laws.proofs.Among.{Among}
use Rattle.list_laws.proofs.Tests.{either}

pub least-first : (a : ℤ) (xs : List ℤ) → least a xs ≤ℤ a
least-first a [] = omega (arith, ints)
least-first a (x ∷ xs) = grind (arith, ints, least-first a xs)

pub least-among : (a x : ℤ) (xs : List ℤ) → Among x xs → least a xs ≤ℤ x
least-among a x [] h = absurd h
least-among a x (z ∷ xs) (inl e) = rw e (left z (least a xs))
  where
    left : (x y : ℤ) → int_min x y ≤ℤ x
    left x y = grind (arith, ints)
least-among a x (z ∷ xs) (inr h) = grind (arith, ints, least-among a x xs h)

pub least-glb : (v a : ℤ) (xs : List ℤ) → v ≤ℤ a → ((x : ℤ) → Among x xs → v ≤ℤ x) → v ≤ℤ least a xs
least-glb v a [] h k = h
least-glb v a (x ∷ xs) h k =
    both (least a xs) (k x (inl refl)) (least-glb v a xs h (λ z i. k z (inr i)))
  where
    both : (y : ℤ) → v ≤ℤ x → v ≤ℤ y → v ≤ℤ int_min x y
    both y h k = grind (arith, ints)

pub least-in : (a : ℤ) (xs : List ℤ) → (least a xs ≡ a) ⊎ Among (least a xs) xs
least-in a [] = inl refl
least-in a (x ∷ xs) = elim (one-of x (least a xs)) [
  | inl e ↦ inr (inl e)
  | inr e ↦ elim (least-in a xs) [
    | inl q ↦ inl (e ∙ q)
    | inr i ↦ inr (inr (subst (λ z. Among z xs) (sym e) i))
  ]
]
  where
    one-of : (x y : ℤ) → (int_min x y ≡ x) ⊎ (int_min x y ≡ y)
    one-of x y = elim (either (int_lt y x)) [ inl e ↦ inr (rw e refl) | inr e ↦ inl (rw e refl) ]

-- of a list that is not empty
pub or_zero-le : (x : ℤ) (xs : List ℤ) → Among x xs → or_zero (least_of xs) ≤ℤ x
or_zero-le x [] h = absurd h
or_zero-le x (y ∷ xs) (inl e) = rw e (least-first y xs)
or_zero-le x (y ∷ xs) (inr h) = least-among y x xs h

pub or_zero-in : (x : ℤ) (xs : List ℤ) → Among x xs → Among (or_zero (least_of xs)) xs
or_zero-in x [] h = absurd h
or_zero-in x (y ∷ xs) h = elim (least-in y xs) [ inl e ↦ inl e | inr i ↦ inr i ]
