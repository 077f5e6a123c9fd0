-- Lists in one order that have each thing as often are one: the first of each stands in the other,
-- and comes before none there, so the two tie, and what ties is the same.
use Rattle.std.proofs.Common.{ℕ, suc, ◌+◌, ◌<◌, ◌≤◌, ◌≡◌, ◌⊎◌, Bool, true, false, cond, List, []}
use Rattle.std.proofs.Common.{◌∷◌, length, get_or, refl, sym, ap, ap₂, ◌∙◌, subst, arith, inl, inr}
use Rattle.std.specs.List.{sum_by}
use Rattle.std.specs.Cmp.{IsStrictWeakOrder}
use Rattle.std.specs.List.Sorted.{IsPermutation, IsSortedBy}
use Rattle.std.proofs.lemmas.List.Sorted.{sorted_far, sum_by-IsPermutation}
use Rattle.std.proofs.lemmas.List.Sums.{sum_by-cons}
use Rattle.list_laws.specs.Sets.{times}
use Rattle.list_laws.proofs.Among.{Among}
use Rattle.list_laws.proofs.Times.{times-among}

times-sum : {X : Type 0} (same : X → X → Bool) (o : X) (xs : List X) →
    times same o xs ≡ sum_by (λ x. cond (same o x) 1 0) xs
times-sum same o [] = refl
times-sum same o (x ∷ xs) =
    let ih : times same o xs ≡ sum_by (λ x. cond (same o x) 1 0) xs = times-sum same o xs in
    rw sum_by-cons (ap (λ n. cond (same o x) 1 0 + n) ih)

-- how often a thing stands in a list is kept by a permutation
pub times-moved : {X : Type 0} (same : X → X → Bool) (o : X) (xs ys : List X) →
    IsPermutation xs ys → times same o ys ≡ times same o xs
times-moved same o xs ys p =
    times-sum same o ys ∙ sum_by-IsPermutation (λ x. cond (same o x) 1 0) xs ys p
    ∙ sym (times-sum same o xs)

-- no later thing is less than an earlier one
abbrev pub InOrder : {X : Type 0} → (X → X → Bool) → List X → Type 0
InOrder less [] = Unit {0}
InOrder {X} less (x ∷ xs) = ((y : X) → Among y xs → less y x ≡ false) × InOrder less xs

module _ {X : Type 0} (less same : X → X → Bool) (is : (a b : X) → same a b ≡ true → a ≡ b)
    (self : (a : X) → same a a ≡ true)
    (tied : (a b : X) → less a b ≡ false → less b a ≡ false → a ≡ b) where
  first-times : (x : X) (xs : List X) → 0 < times same x (x ∷ xs)
  first-times x xs = rw (self x) (omega arith)

  pub ordered-same : (xs ys : List X) → InOrder less xs → InOrder less ys →
      ((o : X) → times same o xs ≡ times same o ys) → xs ≡ ys
  ordered-same [] [] r s t = refl
  ordered-same [] (y ∷ ys) r s t =
      let a : 0 < times same y (y ∷ ys) = first-times y ys in
      let b : 0 ≡ times same y (y ∷ ys) = t y in
      absurd (omega arith)
  ordered-same (x ∷ xs) [] r s t =
      let a : 0 < times same x (x ∷ xs) = first-times x xs in
      let b : times same x (x ∷ xs) ≡ 0 = t x in
      absurd (omega arith)
  ordered-same (x ∷ xs) (y ∷ ys) r s t =
      let e : x ≡ y = head in
      ap₂ (λ a b. a ∷ b) e (ordered-same xs ys r.1 s.1 (λ o. tail o e))
    where
      head : x ≡ y
      head =
          let i : (x ≡ y) ⊎ Among x ys =
          times-among same is x (y ∷ ys) (let a : 0 < times same x (x ∷ xs) = first-times x xs in
          let b : times same x (x ∷ xs) ≡ times same x (y ∷ ys) = t x in omega arith) in
          let j : (y ≡ x) ⊎ Among y xs =
          times-among same is y (x ∷ xs) (let a : 0 < times same y (y ∷ ys) = first-times y ys in
          let b : times same y (x ∷ xs) ≡ times same y (y ∷ ys) = t y in omega arith) in
          go i j
        where
          go : (x ≡ y) ⊎ Among x ys → (y ≡ x) ⊎ Among y xs → x ≡ y
          go (inl e) j = e
          go (inr i) (inl e) = sym e
          go (inr i) (inr j) = tied x y (s.0 x i) (r.0 y j)

      tail : (o : X) → x ≡ y → times same o xs ≡ times same o ys
      tail o e =
          let a : cond (same o x) 1 0 + times same o xs ≡ cond (same o y) 1 0 + times same o ys =
          t o in
          let b : cond (same o x) 1 0 ≡ cond (same o y) 1 0 = ap (λ z. cond (same o z) 1 0) e in
          cancel (cond (same o x) 1 0) (cond (same o y) 1 0) (times same o xs) (times same o ys) b a
        where
          cancel : (a b m n : ℕ) → a ≡ b → a + m ≡ b + n → m ≡ n
          cancel a b m n e f = omega arith

-- from a list whose places are in order
pub in-order-from : {X : Type 0} (less : X → X → Bool) (xs : List X) →
    ((i j : ℕ) (d : X) → i ≤ j → j < length xs → less (get_or xs j d) (get_or xs i d) ≡ false) →
    InOrder less xs
in-order-from less [] h = tt
in-order-from {X} less (x ∷ xs) h = (
  λ y m. (let r = among-place y xs m in
      subst (λ z. less z x ≡ false) (r.2 x)
      (h 0 (suc r.0) x (omega arith) (omega (arith, r.1)))),
  in-order-from less xs (λ i j d a b. h (suc i) (suc j) d (omega arith) (omega arith)),
)
  where
    among-place : (y : X) (xs : List X) → Among y xs → (i : ℕ) × (i < length xs)
        × ((d : X) → get_or xs i d ≡ y)
    among-place y [] m = absurd m
    among-place y (x ∷ xs) (inl e) = (0, omega arith, λ d. sym e)
    among-place y (x ∷ xs) (inr m) =
        let r = among-place y xs m in (suc r.0, omega (arith, r.1), r.2)

-- from a sorted list
pub sorted-in-order : {X : Type 0} (less : X → X → Bool) → IsStrictWeakOrder less →
    (xs : List X) → IsSortedBy less xs → InOrder less xs
sorted-in-order less order xs up =
    in-order-from less xs (λ i j d a b. sorted_far less order xs up i j d a b)
