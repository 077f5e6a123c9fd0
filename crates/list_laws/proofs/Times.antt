-- How often a thing stands in a list, where the test of sameness is right.
use Rattle.std.proofs.Common.{◌&&◌, ap₂, eq-eqb}
use Rattle.std.proofs.Common.{ℕ, zero, suc, ◌+◌, ◌<◌, ◌≤◌, ◌≡◌, eqb, Bool, true, false, cond, List}
use Rattle.std.proofs.Common.{[], ◌∷◌, ◌++◌, filter, refl, ap₂, arith, inl, inr, eqb-true, eq-eqb}
use Rattle.std.proofs.lemmas.Bool.Decides.{nat_tests}
use Rattle.list_laws.specs.Sets.{below, times, same_times, SameTimes, same_list}
use Rattle.list_laws.proofs.Tests.{and-left, and-right}
use Rattle.list_laws.proofs.Among.{Among, all-among}

-- How often a thing stands in a list, where the test of sameness is right.
module _ {X : Type 0} (same : X → X → Bool) where
  pub times-append : (x : X) (xs ys : List X) →
      times same x (xs ++ ys) ≡ times same x xs + times same x ys
  times-append x [] ys = omega arith
  times-append x (z ∷ xs) ys = omega (arith, times-append x xs ys)

  -- what stands among the things is counted
  pub times-pos : ((x : X) → same x x ≡ true) → (x : X) (xs : List X) → Among x xs →
      0 < times same x xs
  times-pos r x [] h = absurd h
  times-pos r x (y ∷ ys) (inl e) =
      let k : same x y ≡ true = rw (← e) (r x) in rw k (omega arith)
  times-pos r x (y ∷ ys) (inr h) = omega (arith, times-pos r x ys h)

  -- what is counted stands among them
  pub times-among : ((x y : X) → same x y ≡ true → x ≡ y) → (x : X) (xs : List X) →
      0 < times same x xs → Among x xs
  times-among q x [] h = absurd (omega arith)
  times-among q x (y ∷ ys) h = cases (same x y) refl (times-among q x ys) h
    where
      cases : (b : Bool) → same x y ≡ b → (0 < times same x ys → Among x ys) →
          0 < cond b 1 0 + times same x ys → Among x (y ∷ ys)
      cases true e ih k = inl (q x y e)
      cases false e ih k = inr (ih (omega arith))

  -- The test of multisets counts the things of both lists; anything else stands in neither.
  pub same_times-all : ((x y : X) → same x y ≡ true → x ≡ y) → (xs ys : List X) →
      same_times same xs ys ≡ true → SameTimes same xs ys
  same_times-all q xs ys h x = cases (times same x (xs ++ ys)) refl
    where
      cases : (n : ℕ) → times same x (xs ++ ys) ≡ n → times same x xs ≡ times same x ys
      cases zero e = omega (arith, times-append x xs ys)
      cases (suc n) e =
          eqb-true (times same x xs) (times same x ys)
          (all-among (λ x. eqb (times same x xs) (times same x ys)) x (xs ++ ys) h
          (times-among q x (xs ++ ys) (omega arith)))

-- The test of lists of numbers is right.

pub same_list-refl : (xs : List ℕ) → same_list xs xs ≡ true
same_list-refl [] = refl
same_list-refl (x ∷ xs) = rw (eq-eqb x x refl) (same_list-refl xs)

pub same_list-eq : (xs ys : List ℕ) → same_list xs ys ≡ true → xs ≡ ys
same_list-eq [] [] h = refl
same_list-eq [] (y ∷ ys) h = grind arith
same_list-eq (x ∷ xs) [] h = grind arith
same_list-eq (x ∷ xs) (y ∷ ys) h =
    ap₂ (λ a b. a ∷ b) (eqb-true x y (and-left (eqb x y) (same_list xs ys) h))
    (same_list-eq xs ys (and-right (eqb x y) (same_list xs ys) h))

-- a child tells its parent and its last number
pub same-child : (p e : List ℕ) (g h : ℕ) →
    same_list (p ++ g ∷ []) (e ++ h ∷ []) ≡ (same_list p e && eqb g h)
same-child [] [] g h = grind arith
same-child [] (y ∷ []) g h = grind arith
same-child [] (y ∷ z ∷ e) g h = grind arith
same-child (x ∷ []) [] g h = grind arith
same-child (x ∷ z ∷ p) [] g h = grind arith
same-child (x ∷ p) (y ∷ e) g h = grind (arith, same-child p e g h)

pub push-inj : (xs ys : List ℕ) (a b : ℕ) → xs ++ a ∷ [] ≡ ys ++ b ∷ [] → (xs ≡ ys) × (a ≡ b)
push-inj xs ys a b e =
    let same : (same_list xs ys && eqb a b) ≡ true =
    rw (← same-child xs ys a b, ← e) (same_list-refl (xs ++ a ∷ [])) in (
      same_list-eq xs ys (and-left (same_list xs ys) (eqb a b) same),
      eqb-true a b (and-right (same_list xs ys) (eqb a b) same),
    )

-- A number stands at most once among those below n that pass a test.

-- a number stands at most once among those below n that pass a test
pub times-filter : (g : ℕ) (test : ℕ → Bool) (hs : List ℕ) →
    times eqb g (filter test hs) ≤ times eqb g hs
times-filter g test [] = omega arith
times-filter g test (h ∷ hs) = grind (arith, times-filter g test hs)

pub times-beyond : (g n : ℕ) → n ≤ g → times eqb g (below n) ≡ 0
times-beyond g zero l = refl
times-beyond g (suc n) l =
    grind (arith, nat_tests, times-beyond g n, times-append eqb g (below n) (n ∷ []))

pub times-below : (g n : ℕ) → times eqb g (below n) ≤ 1
times-below g zero = omega arith
times-below g (suc n) =
    let last = times-append eqb g (below n) (n ∷ []) in
    grind (arith, nat_tests, times-below g n, times-beyond g n, last)
