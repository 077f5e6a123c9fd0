-- The colours that tables leave out for some keys: a colour is left out where some key that counts
-- has it to come. So a part of the keys leaves out no other colours, and keys with the same colours
-- to come leave out these.
use Rattle.std.proofs.Common.{ℕ, zero, suc, ◌<◌, ◌≤◌, ◌≡◌, true, ◌&&◌, ◌||◌, ltb}
use Rattle.std.proofs.Common.{List, [], ◌∷◌, length, take, drop, get_or, refl, sym, ◌∙◌, ap, subst}
use Rattle.std.proofs.Common.{arith, inl, inr, lt-ltb}
use Rattle.std.proofs.lemmas.List.{get_or-take, get_or_default, length-take}
use Rattle.list_laws.specs.Sets.{holds}
use Rattle.list_laws.proofs.Tests.{or-cases, or-left, or-right, either, equal-tests}
use Rattle.list_laws.proofs.Different.{holds-append}
use Rattle.least_slacks.specs.Keys.{no_key}
use Rattle.least_slacks.specs.Parts.{out_of, NameTheSame}
use Rattle.least_slacks.specs.declared.key.Key.{Key}

abbrev key_at : List Key → ℕ → Key
key_at keys i = get_or keys i no_key

-- the colours of a key stand before those of the keys behind it
pub out-cons : (most c : ℕ) (key : Key) (keys : List Key) →
    holds c (out_of most (key ∷ keys)) ≡
    ((ltb key.colours most && holds c key.coming) || holds c (out_of most keys))
out-cons most c key keys = elim (either (ltb key.colours most)) [
  | inl t ↦ rw t (holds-append c key.coming (out_of most keys))
  | inr t ↦ rw t refl
]

pub out-from-place : (most c : ℕ) (keys : List Key) (i : ℕ) → i < length keys →
    holds c (out_of most (drop i keys)) ≡
    ((ltb (key_at keys i).colours most && holds c (key_at keys i).coming)
    || holds c (out_of most (drop (suc i) keys)))
out-from-place most c [] i h = absurd (omega arith)
out-from-place most c (key ∷ keys) zero h = out-cons most c key keys
out-from-place most c (key ∷ keys) (suc i) h = out-from-place most c keys i (omega arith)

-- a colour that is left out is to come of some key that counts
out-from : (most c : ℕ) (keys : List Key) → holds c (out_of most keys) ≡ true →
    (i : ℕ) × (i < length keys) × ((key_at keys i).colours < most)
    × (holds c (key_at keys i).coming ≡ true)
out-from most c [] h = absurd (grind arith)
out-from most c (key ∷ keys) h = elim (either (ltb key.colours most)) [
  | inl t ↦ elim (or-cases (holds c key.coming) (holds c (out_of most keys))
      (sym (holds-append c key.coming (out_of most keys)) ∙ (rw t at h))) [
        | inl e ↦ (0, omega arith, grind arith, e)
        | inr e ↦ later (out-from most c keys e)
      ]
  | inr t ↦ later (out-from most c keys (rw t at h))
]
  where
    later : (i : ℕ) × (i < length keys) × ((key_at keys i).colours < most)
        × (holds c (key_at keys i).coming ≡ true) →
        (i : ℕ) × (i < suc (length keys)) × ((key_at (key ∷ keys) i).colours < most)
        × (holds c (key_at (key ∷ keys) i).coming ≡ true)
    later r = (suc r.0, omega (arith, r.1), r.2, r.3)

-- and the other way round
out-has : (most c : ℕ) (keys : List Key) (i : ℕ) → i < length keys →
    (key_at keys i).colours < most → holds c (key_at keys i).coming ≡ true →
    holds c (out_of most keys) ≡ true
out-has most c [] i h few has = absurd (omega arith)
out-has most c (key ∷ keys) zero h few has =
    let t : ltb key.colours most ≡ true = lt-ltb key.colours most few in
    out-cons most c key keys ∙ rw t (or-left (holds c key.coming) _ has)
out-has most c (key ∷ keys) (suc i) h few has =
    out-cons most c key keys
    ∙ or-right (ltb key.colours most && holds c key.coming) _
    (out-has most c keys i (omega arith) few has)

-- a part of the keys leaves out no other colours
pub out-take : (most c m : ℕ) (keys : List Key) → holds c (out_of most (take m keys)) ≡ true →
    holds c (out_of most keys) ≡ true
out-take most c m keys h =
    let r = out-from most c (take m keys) h in
    let long = length-take m keys in
    let below : r.0 < m = omega (arith, long, r.1) in
    let e : key_at (take m keys) r.0 ≡ key_at keys r.0 = get_or-take m keys r.0 no_key below in
    out-has most c keys r.0 (omega (arith, long, r.1))
    (subst (λ (key : Key). key.colours < most) e r.2)
    (subst (λ (key : Key). holds c key.coming ≡ true) e r.3)

pub out-drop : (most c m : ℕ) (keys : List Key) → holds c (out_of most (drop m keys)) ≡ true →
    holds c (out_of most keys) ≡ true
out-drop most c zero keys h = h
out-drop most c (suc m) [] h = h
out-drop most c (suc m) (key ∷ keys) h =
    out-cons most c key keys
    ∙ or-right (ltb key.colours most && holds c key.coming) _ (out-drop most c m keys h)

-- keys with the same colours to come leave out these
pub same-names : (most : ℕ) (keys : List Key) (coming : List ℕ) →
    ((i : ℕ) → i < length keys → (key_at keys i).colours < most →
    (key_at keys i).coming ≡ coming) → NameTheSame most keys
same-names most keys coming same i d h few c =
    let e : get_or keys i d ≡ key_at keys i = get_or_default keys i d no_key h in
    let few' : (key_at keys i).colours < most = subst (λ (key : Key). key.colours < most) e few in
    equal-tests (holds c (out_of most keys)) (holds c (get_or keys i d).coming)
    (λ q. let r = out-from most c keys q in
    subst (λ (names : List ℕ). holds c names ≡ true)
    (same r.0 r.1 r.2 ∙ sym (same i h few') ∙ ap (λ (key : Key). key.coming) (sym e)) r.3)
    (λ q. out-has most c keys i h few'
    (subst (λ (key : Key). holds c key.coming ≡ true) e q))

-- one key has the same colours as itself
pub single-names : (most : ℕ) (keys : List Key) → length keys ≤ 1 → NameTheSame most keys
single-names most keys n =
    same-names most keys (key_at keys 0).coming (λ i h few. let e : i ≡ 0 = omega arith in
    ap (λ j. (key_at keys j).coming) e)
