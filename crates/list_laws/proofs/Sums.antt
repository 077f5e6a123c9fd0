-- Tests of the numbers below n, and sums over them.
use Rattle.std.proofs.Common.{ℕ, zero, suc, ◌+◌, ◌*◌, ◌<◌, ◌≤◌, ◌≡◌, eqb, ltb, Bool, true, false}
use Rattle.std.proofs.Common.{cond, List, [], ◌∷◌, map, length, set, ℤ, pos, ◌+ℤ◌, ◌≤ℤ◌, refl, ap₂}
use Rattle.std.proofs.Common.{◌∙◌, arith, inl, inr}
use Rattle.std.proofs.lemmas.Bool.Decides.{nat_tests}
use Rattle.std.proofs.lemmas.Int.{ints}
use Rattle.std.specs.List.{list_all}
use Rattle.list_laws.specs.Sets.{total, each_below, chosen, int_sum, int_total}
use Rattle.list_laws.proofs.Tests.{and-left, and-right, last-or-below}

pub each_below-at : (n : ℕ) (test : ℕ → Bool) (s : ℕ) → each_below n test ≡ true → s < n →
    test s ≡ true
each_below-at zero test s h l = absurd (omega arith)
each_below-at (suc n) test s h l = elim (last-or-below s n l) [
  | inl e ↦ rw e (and-right (each_below n test) (test n) h)
  | inr k ↦ each_below-at n test s (and-left (each_below n test) (test n) h) k
]

pub each_below-from : (n : ℕ) (test : ℕ → Bool) → ((s : ℕ) → s < n → test s ≡ true) →
    each_below n test ≡ true
each_below-from zero test h = refl
each_below-from (suc n) test h =
    rw (each_below-from n test (λ s l. h s (omega arith)), h n (omega arith)) refl

-- Sums of counts.

pub total-cong : (n : ℕ) (f g : ℕ → ℕ) → ((s : ℕ) → s < n → f s ≡ g s) → total n f ≡ total n g
total-cong zero f g h = refl
total-cong (suc n) f g h =
    ap₂ (λ a b. a + b) (total-cong n f g (λ s l. h s (omega arith))) (h n (omega arith))

pub total-add : (n : ℕ) (f g : ℕ → ℕ) → total n (λ s. f s + g s) ≡ total n f + total n g
total-add zero f g = refl
total-add (suc n) f g = omega (arith, total-add n f g)

pub total-zero : (n : ℕ) → total n (λ s. 0) ≡ 0
total-zero zero = refl
total-zero (suc n) = omega (arith, total-zero n)

pub total-none : (n t a : ℕ) → n ≤ t → total n (λ s. cond (eqb s t) a 0) ≡ 0
total-none zero t a h = refl
total-none (suc n) t a h = grind (arith, nat_tests, total-none n t a)

pub total-one : (n t a : ℕ) → t < n → total n (λ s. cond (eqb s t) a 0) ≡ a
total-one zero t a h = absurd (omega arith)
total-one (suc n) t a h = grind (arith, nat_tests, total-one n t a, total-none n t a)

pub total-beyond : (m n : ℕ) (f : ℕ → ℕ) → m ≤ n → ((s : ℕ) → m ≤ s → f s ≡ 0) →
    total n f ≡ total m f
total-beyond m zero f l h = let e : m ≡ 0 = omega arith in rw e
total-beyond m (suc n) f l h = elim (last-or-below m (suc n) (omega arith)) [
  | inl e ↦ rw e
  | inr k ↦ omega (arith, total-beyond m n f (omega arith) h, h n (omega arith))
]

pub total-times : (n k : ℕ) (f : ℕ → ℕ) → total n (λ s. f s * k) ≡ total n f * k
total-times zero k f = omega arith
total-times (suc n) k f = omega (arith, total-times n k f)

-- Sums of whole numbers with a sign.

pub int_total-cong : (n : ℕ) (f g : ℕ → ℤ) → ((s : ℕ) → s < n → f s ≡ g s) →
    int_total n f ≡ int_total n g
int_total-cong zero f g h = refl
int_total-cong (suc n) f g h =
    ap₂ (λ a b. a +ℤ b) (int_total-cong n f g (λ s l. h s (omega arith))) (h n (omega arith))

pub int_total-add : (n : ℕ) (f g : ℕ → ℤ) →
    int_total n (λ s. f s +ℤ g s) ≡ int_total n f +ℤ int_total n g
int_total-add zero f g = refl
int_total-add (suc n) f g = omega (arith, ints, int_total-add n f g)

pub int_total-zero : (n : ℕ) → int_total n (λ s. pos 0) ≡ pos 0
int_total-zero zero = refl
int_total-zero (suc n) = omega (arith, ints, int_total-zero n)

pub int_total-mono : (n : ℕ) (f g : ℕ → ℤ) → ((s : ℕ) → s < n → f s ≤ℤ g s) →
    int_total n f ≤ℤ int_total n g
int_total-mono zero f g h = omega (arith, ints)
int_total-mono (suc n) f g h =
    omega (arith, ints, int_total-mono n f g (λ s l. h s (omega arith)), h n (omega arith))

-- where none falls, and that of t rises by d
pub int_total-gain : (n t : ℕ) (d : ℤ) (f g : ℕ → ℤ) → t < n → ((s : ℕ) → s < n → f s ≤ℤ g s) →
    (f t +ℤ d) ≤ℤ g t → (int_total n f +ℤ d) ≤ℤ int_total n g
int_total-gain zero t d f g l h k = absurd (omega arith)
int_total-gain (suc n) t d f g l h k = elim (last-or-below t n l) [
  | inl e ↦ (let here : (f n +ℤ d) ≤ℤ g n = rw e at k in
      omega (arith, ints, int_total-mono n f g (λ s i. h s (omega arith))))
  | inr b ↦ omega (
    arith,
    ints,
    int_total-gain n t d f g b (λ s i. h s (omega arith)) k,
    h n (omega arith),
  )
]

-- what is counted at t alone
pub one-none : (n t : ℕ) (p : ℤ) → n ≤ t → int_total n (λ s. cond (eqb s t) p (pos 0)) ≡ pos 0
one-none zero t p h = refl
one-none (suc n) t p h = grind (arith, ints, nat_tests, one-none n t p)

pub one-total : (n t : ℕ) (p : ℤ) → t < n → int_total n (λ s. cond (eqb s t) p (pos 0)) ≡ p
one-total zero t p h = absurd (omega arith)
one-total (suc n) t p h = grind (arith, ints, nat_tests, one-total n t p, one-none n t p)

-- The sums of prices over the slabs of a plan add up to the sum of all: the price of an order is
-- counted on the slab whose number the order has.
pub sum-parts : (n : ℕ) (plan : List ℕ) (ps : List ℤ) → length plan ≡ length ps →
    list_all (λ t. ltb t n) plan ≡ true →
    int_total n (λ s. int_sum (chosen (map (λ t. eqb s t) plan) ps)) ≡ int_sum ps
sum-parts n [] [] e h = int_total-zero n
sum-parts n [] (p ∷ ps) e h = absurd (omega arith)
sum-parts n (t ∷ plan) [] e h = absurd (omega arith)
sum-parts n (t ∷ plan) (p ∷ ps) e h =
    let here : ℕ → ℤ = λ s. cond (eqb s t) p (pos 0) in
    let later : ℕ → ℤ = λ s. int_sum (chosen (map (λ t. eqb s t) plan) ps) in
    int_total-cong n _ (λ s. here s +ℤ later s) (λ s l. step (eqb s t) (map (λ t. eqb s t) plan))
    ∙ int_total-add n here later
    ∙ ap₂ (λ a b. a +ℤ b) (one-total n t p (grind (arith, nat_tests)))
    (sum-parts n plan ps (omega arith) (and-right (ltb t n) (list_all (λ t. ltb t n) plan) h))
  where
    step : (b : Bool) (set : List Bool) →
        int_sum (chosen (b ∷ set) (p ∷ ps)) ≡ cond b p (pos 0) +ℤ int_sum (chosen set ps)
    step true set = refl
    step false set = omega (arith, ints)
