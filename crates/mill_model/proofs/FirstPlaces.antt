-- What stands before the first place of a number, and the canonical form of one more number.
use Rattle.std.proofs.Common.{ℕ, suc, ◌<◌, ◌≡◌, true, false, ◌||◌, List, [], ◌∷◌, ◌++◌, map}
use Rattle.std.proofs.Common.{eqb, refl, ap, ap₂, ◌∙◌, arith, inl, inr, eq-eqb, zero}
use Rattle.std.proofs.Common.{eq-or-lt_of_le}
use Rattle.std.proofs.lemmas.List.{map-append}
use Rattle.list_laws.specs.Sets.{holds, different, below}
use Rattle.mill_model.specs.Tree.{before_first_of, canonical}
use Rattle.list_laws.proofs.Tests.{either, or-left, or-right}
use Rattle.list_laws.proofs.Different.{Within, holds-append}
use Rattle.list_laws.proofs.Different.{Within-cons}

-- what stands before a number
pub before-lacks : (s : ℕ) (plan : List ℕ) → holds s (before_first_of s plan) ≡ false
before-lacks s [] = refl
before-lacks s (t ∷ plan) =
    elim (either (eqb s t)) [ inl e ↦ rw e | inr e ↦ rw (e, e) (before-lacks s plan) ]

pub before-within : (s : ℕ) (plan : List ℕ) → Within (before_first_of s plan) plan
before-within s [] x h = h
before-within s (t ∷ plan) x h =
    elim (either (eqb s t)) [
      | inl e ↦ grind (arith, rw e at h)
      | inr e ↦ Within-cons t (before_first_of s plan) plan (before-within s plan) x (rw e at h)
    ]

pub before-old : (s : ℕ) (pre post : List ℕ) → holds s pre ≡ true →
    before_first_of s (pre ++ post) ≡ before_first_of s pre
before-old s [] post h = grind arith
before-old s (t ∷ pre) post h =
    elim (either (eqb s t)) [
      | inl e ↦ rw e
      | inr e ↦ rw e (ap (λ l.
          t ∷ l) (before-old s pre post (rw e at h)))
    ]

pub before-new : (s : ℕ) (pre post : List ℕ) → holds s pre ≡ false →
    before_first_of s (pre ++ s ∷ post) ≡ pre
before-new s [] post h = rw (eq-eqb s s refl)
before-new s (t ∷ pre) post h =
    let e : eqb s t ≡ false = grind arith in
    let k : holds s pre ≡ false = grind arith in
    rw e (ap (λ l. t ∷ l) (before-new s pre post k))

-- the canonical form of a list that goes on begins with that of its front
front-of : (pre all : List ℕ) (f g : ℕ → ℕ) → ((t : ℕ) → holds t pre ≡ true → f t ≡ g t) →
    map f pre ≡ map g pre
front-of [] all f g same = refl
front-of (t ∷ pre) all f g same =
    ap₂ (λ x xs. x ∷ xs) (same t (or-left (eqb t t) (holds t pre) (eq-eqb t t refl)))
    (front-of pre all f g (λ u h. same u (or-right (eqb u t) (holds u pre) h)))

pub canonical-push : (pre : List ℕ) (s : ℕ) → canonical (pre ++ s ∷ []) ≡ canonical pre
    ++ different (before_first_of s (pre ++ s ∷ [])) ∷ []
canonical-push pre s =
    map-append (λ t. different (before_first_of t (pre ++ s ∷ []))) pre (s ∷ [])
    ∙ ap (λ l. l ++ different (before_first_of s (pre ++ s ∷ [])) ∷ [])
    (front-of pre pre _ _ (λ t h. ap different (before-old t pre (s ∷ []) h)))

-- numbers below a bound are at most so many different ones
holds-below : (n x : ℕ) → x < n → holds x (below n) ≡ true
holds-below zero x h = absurd (omega arith)
holds-below (suc n) x h =
    rw holds-append (elim (eq-or-lt_of_le {n = x} {m = n} (omega arith)) [
      | inl e ↦ or-right (holds x (below n)) (eqb x n || false)
          (or-left (eqb x n) false (eq-eqb x n e))
      | inr l ↦ or-left (holds x (below n)) (eqb x n || false) (holds-below n x l)
    ])
