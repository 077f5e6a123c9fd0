-- A sum over the different numbers of a list as a sum over places: each number counts at its last
-- place. Such a sum does not ask what the numbers are, only which places have equal ones.
use Rattle.std.proofs.Common.{ℕ, ◌+◌, ◌≡◌, eqb, ltb, true, false, cond, ◌||◌, List, [], ◌∷◌, map}
use Rattle.std.proofs.Common.{refl, ap, ap₂, ◌∙◌, arith, inl, inr, eqb-true, eq-eqb, ltb-true}
use Rattle.std.specs.List.{list_all}
use Rattle.list_laws.specs.Sets.{holds, different, total}
use Rattle.list_laws.proofs.Tests.{either, or-left, or-right, and-left, and-right}
use Rattle.list_laws.proofs.Sums.{total-cong, total-add, total-zero, total-one}

abbrev pub by_last : (ℕ → ℕ) → List ℕ → ℕ
by_last f [] = 0
by_last f (s ∷ plan) = cond (holds s plan) 0 (f s) + by_last f plan

-- f on the slabs of a plan, and 0 elsewhere
abbrev pub only : (ℕ → ℕ) → List ℕ → ℕ → ℕ
only f plan s = cond (holds s plan) (f s) 0

pub total-by_last : (n : ℕ) (f : ℕ → ℕ) (plan : List ℕ) → list_all (λ t. ltb t n) plan ≡ true →
    total n (only f plan) ≡ by_last f plan
total-by_last n f [] h = total-zero n
total-by_last n f (t ∷ plan) h =
    let here : ℕ → ℕ = λ s. cond (eqb s t) (cond (holds t plan) 0 (f t)) 0 in
    total-cong n (only f (t ∷ plan)) (λ s. here s + only f plan s) (λ s l. step s)
    ∙ total-add n here (only f plan)
    ∙ ap₂ (λ a b. a + b) (total-one n t (cond (holds t plan) 0 (f t)) (ltb-true t n
    (and-left (ltb t n) _ h))) (total-by_last n f plan (and-right (ltb t n) _ h))
  where
    step : (s : ℕ) → only f (t ∷ plan) s ≡ cond (eqb s t) (cond (holds t plan) 0 (f t)) 0
        + only f plan s
    step s = elim (either (eqb s t)) [
      | inl e ↦ rw (e, eqb-true s t e) (grind arith)
      | inr e ↦ rw e (omega arith)
    ]

-- a renaming that keeps apart the numbers of a plan keeps the sum
pub by_last-map : (f F G : ℕ → ℕ) (plan : List ℕ) →
    ((s t : ℕ) → holds s plan ≡ true → holds t plan ≡ true → eqb (f s) (f t) ≡ eqb s t) →
    ((s : ℕ) → holds s plan ≡ true → G (f s) ≡ F s) → by_last G (map f plan) ≡ by_last F plan
by_last-map f F G [] apart same = refl
by_last-map f F G (s ∷ plan) apart same =
    let here : holds s (s ∷ plan) ≡ true = or-left (eqb s s) _ (eq-eqb s s refl) in
    let later : (t : ℕ) → holds t plan ≡ true → holds t (s ∷ plan) ≡ true =
    λ t h. or-right (eqb t s) _ h in
    let old : holds (f s) (map f plan) ≡ holds s plan =
    holds-map plan (λ t k. apart s t here (later t k)) in
    rw (old, same s here) (ap (λ r. cond (holds s plan) 0 (F s) + r)
    (by_last-map f F G plan (λ s' t h k. apart s' t (later s' h) (later t k)) (λ s' h.
    same s' (later s' h))))
  where
    holds-map : (more : List ℕ) → ((t : ℕ) → holds t more ≡ true → eqb (f s) (f t) ≡ eqb s t) →
        holds (f s) (map f more) ≡ holds s more
    holds-map [] h = refl
    holds-map (t ∷ more) h =
        ap₂ (λ a b. a || b) (h t (or-left (eqb t t) _ (eq-eqb t t refl)))
        (holds-map more (λ t' k. h t' (or-right (eqb t' t) _ k)))

-- one for each slab
pub by_last-ones : (plan : List ℕ) → by_last (λ s. 1) plan ≡ different plan
by_last-ones [] = refl
by_last-ones (s ∷ plan) = grind (arith, by_last-ones plan)

-- of two functions that differ on the slabs of a plan alone
pub split-used : (n : ℕ) (f g : ℕ → ℕ) (plan : List ℕ) →
    ((s : ℕ) → holds s plan ≡ false → f s ≡ g s) → list_all (λ t. ltb t n) plan ≡ true →
    total n f + by_last g plan ≡ by_last f plan + total n g
split-used n f g plan same b =
    omega (
      arith,
      total-by_last n g plan b,
      total-by_last n f plan b,
      total-add n f (only g plan),
      total-add n (only f plan) g,
      total-cong n (λ s. f s + only g plan s) (λ s. only f plan s + g s) (λ s l. at s),
    )
  where
    at : (s : ℕ) → f s + only g plan s ≡ only f plan s + g s
    at s = elim (either (holds s plan)) [
      | inl h ↦ rw h
      | inr h ↦ rw h (omega (arith, same s h))
    ]
