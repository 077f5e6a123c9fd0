-- The first number below another that passes a test.
use Rattle.std.proofs.Common.{ℕ, zero, suc, ◌<◌, ◌≡◌, Bool, true, false, cond, ◌&&◌, List, [], ◌∷◌}
use Rattle.std.proofs.Common.{filter, Some, None, refl, ap, ◌∙◌, arith, inl, inr, subst}
use Rattle.std.specs.List.{find}
use Rattle.std.specs.Option.{option_or}
use Rattle.std.proofs.lemmas.List.Folds.{find-append}
use Rattle.list_laws.specs.Sets.{below}
use Rattle.list_laws.proofs.Tests.{either, last-or-below}

-- one number more
find-more : (test : ℕ → Bool) (n : ℕ) →
    find test (below (suc n)) ≡ option_or (find test (below n)) (cond (test n) (Some n) None)
find-more test n = find-append test (below n) (n ∷ [])

pub find-none : (test : ℕ → Bool) (n : ℕ) → ((k : ℕ) → k < n → test k ≡ false) →
    find test (below n) ≡ None
find-none test zero h = refl
find-none test (suc n) h =
    find-more test n
    ∙ rw (find-none test n (λ k l. h k (omega arith)), h n (omega arith))

pub find-first : (test : ℕ → Bool) (n g : ℕ) → g < n → test g ≡ true →
    ((k : ℕ) → k < g → test k ≡ false) → find test (below n) ≡ Some g
find-first test zero g l t h = absurd (omega arith)
find-first test (suc n) g l t h = elim (last-or-below g n l) [
  | inl e ↦ find-more test n ∙ rw (
    find-none test n (λ k b. h k (omega arith)),
    subst (λ g. test g ≡ true) e t,
  ) (ap (λ x. Some x) (omega arith))
  | inr b ↦ find-more test n ∙ rw (find-first test n g b t h)
]

-- the first of those that pass another test
pub find-filter : (test sieve : ℕ → Bool) (xs : List ℕ) →
    find test (filter sieve xs) ≡ find (λ x. sieve x && test x) xs
find-filter test sieve [] = refl
find-filter test sieve (x ∷ xs) = elim (either (sieve x)) [
  | inl e ↦ rw (e, find-filter test sieve xs)
  | inr e ↦ rw (e, find-filter test sieve xs)
]
