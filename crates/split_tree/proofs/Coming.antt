-- The coming colours of a group stand in eight places, since they rise and are among its colours.
use Rattle.std.proofs.Common.{ℕ, zero, suc, ◌+◌, ◌-◌, ◌<◌, ◌≤◌, ◌≡◌, Bool, true, false, cond}
use Rattle.std.proofs.Common.{List, [], ◌∷◌, ◌++◌, filter, length, take, set, replicate, Some, None}
use Rattle.std.proofs.Common.{refl, sym, ap, ◌∙◌, arith, eqb, eqb-true, inl, inr, length-append}
use Rattle.std.proofs.Common.{append-nil}
use Rattle.std.specs.List.{slice_get}
use Rattle.std.specs.List.Sorted.{IsStrictlyIncreasing}
use Rattle.list_laws.specs.Sets.{holds, different}
use Rattle.list_laws.proofs.Tests.{either, or-cases, clash}
use Rattle.list_laws.proofs.Different.{different-mono, different-length, holds-unfilter}
use Rattle.mill_model.proofs.RisingLists.{rise_later}
use Rattle.split_tree.specs.Keys.{padded}
use Rattle.split_tree.specs.declared.live_key.TheConstants.{NO_COLOUR}

-- one number more in front of the empty places
pub padded-more : (list : List ℕ) (c : ℕ) → length list < 8 →
    set (padded list) (length list) c ≡ padded (list ++ c ∷ [])
padded-more list c few =
    let room : 8 - length list ≡ suc (8 - length (list ++ c ∷ [])) =
    (let more : length (list ++ c ∷ []) ≡ length list + 1 = length-append list (c ∷ []) in
    omega arith) in
    rw room (set-first list (8 - length (list ++ c ∷ [])))
  where
    set-first : (xs : List ℕ) (n : ℕ) → set (xs ++ replicate (suc n) NO_COLOUR) (length xs) c
        ≡ (xs ++ c ∷ []) ++ replicate n NO_COLOUR
    set-first [] n = refl
    set-first (x ∷ xs) n = ap (λ l. x ∷ l) (set-first xs n)

-- the numbers that pass among one more
pub passed-more : (p : ℕ → Bool) (xs : List ℕ) (i x : ℕ) → slice_get xs i ≡ Some x →
    filter p (take (suc i) xs) ≡ filter p (take i xs) ++ cond (p x) (x ∷ []) []
passed-more p [] i x e = absurd (none-some e)
  where
    none-some : None ≡ Some x → ⊥
    none-some e = cc
passed-more p (y ∷ xs) zero x e = rw (same e) (last (p x))
  where
    same : Some y ≡ Some x → y ≡ x
    same e = cc

    last : (b : Bool) → cond b (x ∷ []) [] ≡ cond b (x ∷ []) []
    last b = refl
passed-more p (y ∷ xs) (suc i) x e = front (p y) (passed-more p xs i x e)
  where
    front : (b : Bool) →
        filter p (take (suc i) xs) ≡ filter p (take i xs) ++ cond (p x) (x ∷ []) [] →
        cond b (y ∷ filter p (take (suc i) xs)) (filter p (take (suc i) xs))
        ≡ cond b (y ∷ filter p (take i xs)) (filter p (take i xs)) ++ cond (p x) (x ∷ []) []
    front true ih = ap (λ l. y ∷ l) ih
    front false ih = ih

pub passed-fewer : (p : ℕ → Bool) (n : ℕ) (xs : List ℕ) →
    length (filter p (take n xs)) ≤ length (filter p xs)
passed-fewer p zero xs = omega arith
passed-fewer p (suc n) [] = omega arith
passed-fewer p (suc n) (x ∷ xs) = one (p x) (passed-fewer p n xs)
  where
    one : (b : Bool) → length (filter p (take n xs)) ≤ length (filter p xs) →
        length (cond b (x ∷ filter p (take n xs)) (filter p (take n xs)))
        ≤ length (cond b (x ∷ filter p xs) (filter p xs))
    one true ih = omega arith
    one false ih = ih

-- the first of rising numbers is below each later one
above-first : (x : ℕ) (xs : List ℕ) (z : ℕ) → IsStrictlyIncreasing (x ∷ xs) →
    holds z xs ≡ true → x < z
above-first x [] z rise h = absurd (clash false h refl)
above-first x (y ∷ xs) z rise h =
    let first : x < y = rise 0 (omega arith) in
    elim (or-cases (eqb z y) (holds z xs) h) [
      | inl e ↦ (let same : z ≡ y = eqb-true z y e in omega arith)
      | inr later ↦ (let more : y < z = above-first y xs z (rise_later x (y ∷ xs) rise) later in
          omega arith)
    ]

passed-passes : (p : ℕ → Bool) (xs : List ℕ) (z : ℕ) → holds z (filter p xs) ≡ true → p z ≡ true
passed-passes p [] z h = absurd (clash false h refl)
passed-passes p (x ∷ xs) z h = one (p x) refl (passed-passes p xs z) h
  where
    one : (b : Bool) → p x ≡ b → (holds z (filter p xs) ≡ true → p z ≡ true) →
        holds z (cond b (x ∷ filter p xs) (filter p xs)) ≡ true → p z ≡ true
    one true t ih k = elim (or-cases (eqb z x) (holds z (filter p xs)) k) [
      | inl e ↦ (let same : z ≡ x = eqb-true z x e in rw same t)
      | inr later ↦ ih later
    ]
    one false t ih k = ih k

-- rising numbers that pass stand once
passed-once : (p : ℕ → Bool) (xs : List ℕ) → IsStrictlyIncreasing xs →
    different (filter p xs) ≡ length (filter p xs)
passed-once p [] rise = refl
passed-once p (x ∷ xs) rise = one (p x) (passed-once p xs (rise_later x xs rise))
  where
    lone : holds x (filter p xs) ≡ false
    lone = elim (either (holds x (filter p xs))) [
      | inl h ↦ absurd (let more : x < x = above-first x xs x rise (holds-unfilter p x xs h) in
          omega arith)
      | inr h ↦ h
    ]

    one : (b : Bool) → different (filter p xs) ≡ length (filter p xs) →
        different (cond b (x ∷ filter p xs) (filter p xs))
        ≡ length (cond b (x ∷ filter p xs) (filter p xs))
    one true ih = rw lone (ap suc ih)
    one false ih = ih

-- no more rising numbers pass than there are numbers that they are among
pub passed-few : (colours xs : List ℕ) → IsStrictlyIncreasing xs →
    length (filter (λ c. holds c colours) xs) ≤ length colours
passed-few colours xs rise =
    let once : different (filter (λ c. holds c colours) xs)
    ≡ length (filter (λ c. holds c colours) xs) = passed-once (λ c. holds c colours) xs rise in
    let most : different (filter (λ c. holds c colours) xs) ≤ different colours =
    different-mono (filter (λ c. holds c colours) xs) colours
    (passed-passes (λ c. holds c colours) xs) in
    let all : different colours ≤ length colours = different-length colours in
    omega arith

-- one more number, where it passes, and where it doesn't
pub count-more : (colours xs : List ℕ) (i x : ℕ) → IsStrictlyIncreasing xs →
    slice_get xs i ≡ Some x → holds x colours ≡ true →
    length (filter (λ c. holds c colours) (take i xs)) + 1 ≤ length colours
count-more colours xs i x rise e h =
    let p : ℕ → Bool = λ c. holds c colours in
    let some : List ℕ = filter p (take i xs) in
    let one : length (filter p (take (suc i) xs)) ≡ length some + 1 =
    ap length (passed-more p xs i x e ∙ ap (λ b. some ++ cond b (x ∷ []) []) h)
    ∙ length-append some (x ∷ []) in
    let most : length (filter p (take (suc i) xs)) ≤ length (filter p xs) =
    passed-fewer p (suc i) xs in
    let all : length (filter p xs) ≤ length colours = passed-few colours xs rise in
    omega arith

pub noted-more : (colours xs : List ℕ) (i x count : ℕ) (among : List ℕ) →
    IsStrictlyIncreasing xs → length colours ≤ 8 → slice_get xs i ≡ Some x →
    holds x colours ≡ true → count ≡ length (filter (λ c. holds c colours) (take i xs)) →
    among ≡ padded (filter (λ c. holds c colours) (take i xs)) →
    (count + 1 ≡ length (filter (λ c. holds c colours) (take (i + 1) xs)))
    × (set among count x ≡ padded (filter (λ c. holds c colours) (take (i + 1) xs)))
noted-more colours xs i x count among rise eight e h n is =
    let p : ℕ → Bool = λ c. holds c colours in
    let some : List ℕ = filter p (take i xs) in
    let next : i + 1 ≡ suc i = omega arith in
    let more : filter p (take (suc i) xs) ≡ some ++ x ∷ [] =
    passed-more p xs i x e ∙ ap (λ b. some ++ cond b (x ∷ []) []) h in
    let few : length some + 1 ≤ length colours = count-more colours xs i x rise e h in
    rw next (
      (let long : length (some ++ x ∷ []) ≡ length some + 1 = length-append some (x ∷ []) in
          ap (λ k. k + 1) n ∙ sym long ∙ ap length (sym more)),
      rw (is, n) (padded-more some x (omega arith)) ∙ ap padded (sym more),
    )

pub skipped-more : (colours xs : List ℕ) (i x : ℕ) → slice_get xs i ≡ Some x →
    holds x colours ≡ false → filter (λ c. holds c colours) (take (i + 1) xs)
    ≡ filter (λ c. holds c colours) (take i xs)
skipped-more colours xs i x e h =
    let p : ℕ → Bool = λ c. holds c colours in
    let next : i + 1 ≡ suc i = omega arith in
    rw next (passed-more p xs i x e ∙ ap (λ b. filter p (take i xs) ++ cond b (x ∷ []) []) h
    ∙ append-nil (filter p (take i xs)))
