-- Numbers that grow are their own canonical form: each new slab has the next number already.
use Rattle.std.proofs.Common.{ℕ, suc, ◌<◌, ◌≤◌, ◌≡◌, ◌⊎◌, max, eqb, leb, true, false, List, [], ◌∷◌}
use Rattle.std.proofs.Common.{◌++◌, refl, arith, inl, inr, eqb-true, leb-true}
use Rattle.std.proofs.Common.{append_assoc, append-nil}
use Rattle.std.proofs.lemmas.Bool.Decides.{nat_tests}
use Rattle.std.proofs.lemmas.Bool.{cases_lt}
use Rattle.list_laws.specs.Sets.{holds, different}
use Rattle.mill_model.specs.Tree.{next_new, canonical}
use Rattle.list_laws.proofs.Tests.{and-left, and-right, either}
use Rattle.list_laws.proofs.Different.{different-push}
use Rattle.mill_laws.proofs.Canonical.{grows, place}
use Rattle.mill_model.proofs.FirstPlaces.{before-old, before-new}
use Rattle.mill_laws.proofs.Groups.{next_new-push}
use Rattle.list_laws.proofs.Lists.{map-same}
use Rattle.list_laws.proofs.Different.{holds-push}
use Rattle.list_laws.proofs.Different.{push-holds}

-- The front of a plan that is its own canonical form: its numbers are all those below the next new
-- one, and each stands at its place.
pub record Proper (pre : List ℕ) : Type 0 where
  pub full : different pre ≡ next_new pre
  pub bound : (x : ℕ) → holds x pre ≡ true → x < next_new pre
  pub all : (x : ℕ) → x < next_new pre → holds x pre ≡ true
  pub placed : (x : ℕ) → holds x pre ≡ true → place pre x ≡ x

pub proper-push : (s : ℕ) (pre : List ℕ) → s ≤ next_new pre → Proper pre → Proper (pre ++ s ∷ [])
proper-push s pre l p = record {
  full = elim (either (holds s pre)) [
    | inl h ↦ old (p.bound s h) (rw h at (different-push s pre))
    | inr h ↦ new (next h) (rw h at (different-push s pre))
  ];
  bound = λ x h. elim (holds-push pre x s h) [
    | inl i ↦ omega (arith, n, p.bound x i)
    | inr q ↦ omega (arith, n)
  ];
  all = λ x h. push-holds x s pre (elim (either (eqb x s)) [
    | inl e ↦ inr (eqb-true x s e)
    | inr e ↦ inl (p.all x (grind (arith, nat_tests, n)))
  ]);
  placed = λ x h. elim (either (holds x pre)) [
    | inl i ↦ rw (before-old x pre (s ∷ []) i) (p.placed x i)
    | inr i ↦ last x i (holds-push pre x s h)
  ];
}
  where
    n : next_new (pre ++ s ∷ []) ≡ max (next_new pre) (suc s)
    n = next_new-push s pre

    next : holds s pre ≡ false → s ≡ next_new pre
    next h = elim (cases_lt s (next_new pre)) [
      | inl b ↦ absurd (grind (arith, p.all s b))
      | inr b ↦ omega arith
    ]

    old : s < next_new pre → different (pre ++ s ∷ []) ≡ different pre →
        different (pre ++ s ∷ []) ≡ next_new (pre ++ s ∷ [])
    old b d = omega (arith, n, p.full)

    new : s ≡ next_new pre → different (pre ++ s ∷ []) ≡ suc (different pre) →
        different (pre ++ s ∷ []) ≡ next_new (pre ++ s ∷ [])
    new b d = omega (arith, n, p.full)

    last : (x : ℕ) → holds x pre ≡ false → (holds x pre ≡ true) ⊎ (x ≡ s) →
        place (pre ++ s ∷ []) x ≡ x
    last x i (inl h) = absurd (grind arith)
    last x i (inr q) =
        let fresh : holds s pre ≡ false = rw q at i in
        rw (q, before-new s pre [] fresh) (omega (arith, p.full, next fresh))

pub proper-all : (pre post : List ℕ) → Proper pre → grows (next_new pre) post ≡ true →
    Proper (pre ++ post)
proper-all pre [] p h = rw append-nil p
proper-all pre (s ∷ post) p h =
    let l : s ≤ next_new pre = leb-true s (next_new pre) (and-left (leb s (next_new pre)) _ h) in
    let next : next_new (pre ++ s ∷ []) ≡ max (suc s) (next_new pre) =
    omega (arith, next_new-push s pre) in
    rw (append_assoc pre (s ∷ []) post) at (proper-all (pre ++ s ∷ []) post
    (proper-push s pre l p) (rw next (and-right (leb s (next_new pre)) _ h)))

pub canonical-same : (word : List ℕ) → grows 0 word ≡ true → canonical word ≡ word
canonical-same word h = map-same (place word) word (proper-all [] word nothing h).placed
  where
    nothing : Proper []
    nothing = record {
      full = refl;
      bound = λ x i. absurd (grind arith);
      all = λ x i. absurd (omega arith);
      placed = λ x i. absurd (grind arith);
    }
