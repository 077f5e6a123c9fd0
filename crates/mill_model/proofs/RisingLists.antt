-- Rising lists of the same numbers are one, so given sizes make one list.
use Rattle.std.specs.Prelude.{Contains}
use Rattle.std.specs.List.Sorted.{IsStrictlyIncreasing}
use Rattle.std.proofs.Common.{◌≡◌, ℕ, suc, ◌+◌, ◌<◌, ◌≤◌, List, [], ◌∷◌, refl, ap, sym, ◌∙◌, ◌⊎◌}
use Rattle.std.proofs.Common.{inl, inr, arith}
use Rattle.std.proofs.lemmas.List.Elements.{All-contains, All-cons, All-nil, Contains-append_left}
use Rattle.std.proofs.lemmas.List.Elements.{Contains-append_right, Contains-append_cases}
use Rattle.std.proofs.lemmas.List.Elements.{Contains-push}
use Rattle.std.proofs.lemmas.List.Kept.{AllPairs-from_increasing}
use Rattle.mill_model.specs.Instance.{AreSizesOf}

first_in : (x : ℕ) (xs : List ℕ) → Contains (x ∷ xs) x
first_in x xs = Contains-append_left (x ∷ []) xs x (Contains-push [] x)

first_or_later : (x : ℕ) (xs : List ℕ) (n : ℕ) → Contains (x ∷ xs) n → (x ≡ n) ⊎ Contains xs n
first_or_later x xs n h = elim (Contains-append_cases (x ∷ []) xs n h) [
  | inl one ↦ inl (All-contains (λ y. x ≡ y) (x ∷ []) n
      (All-cons (λ y. x ≡ y) x [] refl (All-nil (λ y. x ≡ y))) one)
  | inr later ↦ inr later
]

-- the first is below each later one
later_above : (x : ℕ) (xs : List ℕ) (n : ℕ) → IsStrictlyIncreasing (x ∷ xs) → Contains xs n → x < n
later_above x xs n rise h =
    All-contains (λ y. x < y) xs n (λ k d within. AllPairs-from_increasing (x ∷ xs) rise 0 (suc k) d
    (omega arith) (omega arith)) h

first_least : (x : ℕ) (xs : List ℕ) (n : ℕ) → IsStrictlyIncreasing (x ∷ xs) →
    Contains (x ∷ xs) n → x ≤ n
first_least x xs n rise h = elim (first_or_later x xs n h) [
  | inl same ↦ omega arith
  | inr later ↦ (let above = later_above x xs n rise later in omega arith)
]

pub rise_later : (x : ℕ) (xs : List ℕ) → IsStrictlyIncreasing (x ∷ xs) → IsStrictlyIncreasing xs
rise_later x xs rise k within =
    let e : suc k + 1 ≡ suc (k + 1) = omega arith in
    rw e at (rise (suc k) (omega arith))

abbrev IsPart : List ℕ → List ℕ → Type 0
IsPart xs ys = (n : ℕ) → Contains xs n → Contains ys n

-- without the first, where that is the same
part_later : (x y : ℕ) (xs ys : List ℕ) → x ≡ y → IsStrictlyIncreasing (x ∷ xs) →
    IsPart (x ∷ xs) (y ∷ ys) → IsPart xs ys
part_later x y xs ys same rise part n h =
    let above : x < n = later_above x xs n rise h in
    elim (first_or_later y ys n (part n (Contains-append_right (x ∷ []) xs n h))) [
      | inl first ↦ absurd (omega arith)
      | inr later ↦ later
    ]

pub same_rising : (xs ys : List ℕ) → IsStrictlyIncreasing xs → IsStrictlyIncreasing ys →
    IsPart xs ys → IsPart ys xs → xs ≡ ys
same_rising [] [] rise rise' to from = refl
same_rising [] (y ∷ ys) rise rise' to from =
    let none = from y (first_in y ys) in absurd (omega (arith, none.1))
same_rising (x ∷ xs) [] rise rise' to from =
    let none = to x (first_in x xs) in absurd (omega (arith, none.1))
same_rising (x ∷ xs) (y ∷ ys) rise rise' to from =
    let low : x ≤ y = first_least x xs y rise (from y (first_in y ys)) in
    let high : y ≤ x = first_least y ys x rise' (to x (first_in x xs)) in
    let same : x ≡ y = omega arith in
    ap (λ n. n ∷ xs) same
    ∙ ap (λ ns. y ∷ ns) (same_rising xs ys (rise_later x xs rise) (rise_later y ys rise')
    (part_later x y xs ys same rise to) (part_later y x ys xs (sym same) rise' from))

pub same_sizes : (given xs ys : List ℕ) → AreSizesOf given xs → AreSizesOf given ys → xs ≡ ys
same_sizes given xs ys h k =
    same_rising xs ys h.rise k.rise (λ n e. k.kept n (h.only n e)) (λ n e. h.kept n (k.only n e))
