-- The least of rising sizes that holds a load.
use Rattle.std.proofs.Common.{ℕ, zero, suc, ◌+◌, ◌<◌, ◌≤◌, ◌≡◌, Bool, true, false, Some, None, List}
use Rattle.std.proofs.Common.{[], ◌∷◌, length, get_or, leb, refl, sym, ◌∙◌, arith, inl, inr, le-leb}
use Rattle.std.proofs.Common.{ltb, ltb-true, ltb-false, eq-or-lt_of_le, le_antisymm, ◌↔◌, slice_get}
use Rattle.std.proofs.Common.{IfSome, IsNone}
use Rattle.std.proofs.lemmas.Bool.{lt-leb, cases_lt}
use Rattle.std.specs.Prelude.{find}
use Rattle.std.specs.List.Sorted.{IsStrictlyIncreasing, IsNonDecreasing, IsPartitionPoint}
use Rattle.std.proofs.lemmas.List.{get_or_default}
use Rattle.std.proofs.lemmas.Option.{slice_get-get_or, slice_get_past}
use Rattle.std.proofs.lemmas.List.Elements.{Contains-get_or}
use Rattle.std.proofs.lemmas.List.Kept.{AllPairs-from_increasing}
use Rattle.mill_model.specs.Instance.{largest, size_for}
use Rattle.loss_table.specs.LeastSize.{IsLeastSize}

-- the first that passes, where those before it don't
find-at : (p : ℕ → Bool) (xs : List ℕ) (i : ℕ) →
    ((k : ℕ) → k < i → p (get_or xs k 0) ≡ false) → i < length xs → p (get_or xs i 0) ≡ true →
    find p xs ≡ Some (get_or xs i 0)
find-at p [] i fail l pass = absurd (omega arith)
find-at p (x ∷ xs) zero fail l pass = rw pass
find-at p (x ∷ xs) (suc i) fail l pass =
    rw (fail 0 (omega arith)) (find-at p xs i (λ k l. fail (suc k) (omega arith)) (omega arith)
    pass)

find-none : (p : ℕ → Bool) (xs : List ℕ) → ((k : ℕ) → k < length xs → p (get_or xs k 0) ≡ false) →
    find p xs ≡ None
find-none p [] fail = refl
find-none p (x ∷ xs) fail =
    rw (fail 0 (omega arith)) (find-none p xs (λ k l. fail (suc k) (omega arith)))

-- each size is at most the largest
pub largest-at : (xs : List ℕ) (k : ℕ) → k < length xs → get_or xs k 0 ≤ largest xs
largest-at [] k l = absurd (omega arith)
largest-at (x ∷ xs) zero l = omega arith
largest-at (x ∷ xs) (suc k) l =
    let rest : get_or xs k 0 ≤ largest xs = largest-at xs k (omega arith) in omega arith

-- the largest is below what each is below
pub largest-below : (xs : List ℕ) (bound : ℕ) → 0 < bound →
    ((k : ℕ) → k < length xs → get_or xs k 0 < bound) → largest xs < bound
largest-below [] bound some each = some
largest-below (x ∷ xs) bound some each =
    let first : x < bound = each 0 (omega arith) in
    let rest : largest xs < bound =
    largest-below xs bound some (λ k l. each (suc k) (omega arith)) in
    omega arith

-- rising sizes fall nowhere
pub not-falling : (sizes : List ℕ) → IsStrictlyIncreasing sizes → IsNonDecreasing sizes
not-falling sizes rise i j d le l = elim (eq-or-lt_of_le {n = i} {m = j} le) [
  | inl e ↦ rw e (omega arith)
  | inr less ↦ (let more : get_or sizes i d < get_or sizes j d =
      AllPairs-from_increasing sizes rise i j d less l in omega arith)
]

-- a place of the sizes that parts those below a load from the others
pub record IsPart (sizes : List ℕ) (load i : ℕ) : Type 0 where
  pub within : i ≤ length sizes
  pub before : (k : ℕ) → k < i → get_or sizes k 0 < load
  pub after : (k : ℕ) → i ≤ k → k < length sizes → load ≤ get_or sizes k 0

pub size_for-inside : (sizes : List ℕ) (load i : ℕ) → IsPart sizes load i → i < length sizes →
    size_for sizes load ≡ Some (get_or sizes i 0)
size_for-inside sizes load i part l =
    find-at (λ size. leb load size) sizes i (λ k l. lt-leb load _ (part.before k l)) l
    (le-leb _ _ (part.after i (omega arith) l))

pub size_for-outside : (sizes : List ℕ) (load : ℕ) → largest sizes < load →
    size_for sizes load ≡ None
size_for-outside sizes load over =
    find-none (λ size. leb load size) sizes (λ k l.
    let most : get_or sizes k 0 ≤ largest sizes =
    largest-at sizes k l in lt-leb load _ (omega arith))

-- the place serves a greater load that the size there still holds
pub part-later : (sizes : List ℕ) (low load i : ℕ) → IsStrictlyIncreasing sizes →
    IsPart sizes low i → i < length sizes → low ≤ load → load ≤ get_or sizes i 0 →
    IsPart sizes load i
part-later sizes low load i rise part l up enough = record {
  within = part.within;
  before = λ k less. (let small : get_or sizes k 0 < low = part.before k less in omega arith);
  after = λ k le in'. (let more : get_or sizes i 0 ≤ get_or sizes k 0 =
      not-falling sizes rise i k 0 le in' in omega arith);
}

-- past the size there, the next place
pub part-next : (sizes : List ℕ) (low i : ℕ) → IsStrictlyIncreasing sizes → IsPart sizes low i →
    i < length sizes → IsPart sizes (get_or sizes i 0 + 1) (i + 1)
part-next sizes low i rise part l = record {
  within = omega arith;
  before = λ k less. (let most : get_or sizes k 0 ≤ get_or sizes i 0 =
      not-falling sizes rise k i 0 (omega arith) l in omega arith);
  after = λ k le in'. (let more : get_or sizes i 0 < get_or sizes k 0 =
      AllPairs-from_increasing sizes rise i k 0 (omega arith) in' in omega arith);
}

-- a size that holds the load stands at that place or later
least-at : (sizes : List ℕ) (load i : ℕ) → IsStrictlyIncreasing sizes → IsPart sizes load i →
    (other k : ℕ) → k < length sizes → get_or sizes k other ≡ other → load ≤ other →
    get_or sizes i 0 ≤ other
least-at sizes load i rise part other k l there enough =
    let here : get_or sizes k 0 ≡ other = get_or_default sizes k 0 other l ∙ there in
    elim (cases_lt k i) [
      | inl less ↦ (let low : get_or sizes k 0 < load = part.before k less in absurd (omega arith))
      | inr more ↦ (let up : get_or sizes i 0 ≤ get_or sizes k 0 =
          not-falling sizes rise i k 0 more l in omega arith)
    ]

-- what a binary search for the first that isn't below the load finds
pub part-found : (sizes : List ℕ) (load i : ℕ) → i ≤ length sizes →
    IsPartitionPoint (λ y. ltb y load ≡ true) (λ y. ltb y load ≡ false) sizes i →
    IsPart sizes load i
part-found sizes load i within part = record {
  within = within;
  before = λ k l. ltb-true _ _ (part.0 k 0 (omega arith) l);
  after = λ k le l. ltb-false _ _ (part.1 k 0 le l);
}

-- the size at that place is the least that holds the load
pub least-inside : (sizes : List ℕ) (load i : ℕ) → IsStrictlyIncreasing sizes →
    IsPart sizes load i → i < length sizes → IsLeastSize sizes load (get_or sizes i 0)
least-inside sizes load i rise part l = record {
  listed = Contains-get_or sizes i 0 l;
  enough = part.after i (omega arith) l;
  least =
      λ other there enough. least-at sizes load i rise part other there.0 there.1 there.2 enough;
}

-- where there is no such place inside, the largest is below the load
pub largest-outside : (sizes : List ℕ) (load : ℕ) → 1 ≤ length sizes →
    IsPart sizes load (length sizes) → largest sizes < load
largest-outside sizes load some part =
    let first : get_or sizes 0 0 < load = part.before 0 some in
    largest-below sizes load (omega arith) part.before

-- what stands at that place, if anything does, is the answer
pub size_for-part : (sizes : List ℕ) (load i : ℕ) → 1 ≤ length sizes → IsPart sizes load i →
    slice_get sizes i ≡ size_for sizes load
size_for-part sizes load i some part = elim (cases_lt i (length sizes)) [
  | inl l ↦ slice_get-get_or sizes i 0 l ∙ sym (size_for-inside sizes load i part l)
  | inr past ↦ (let end : i ≡ length sizes = le_antisymm part.within past in
      slice_get_past sizes i past
      ∙ sym (size_for-outside sizes load (largest-outside sizes load some (rw (← end) part))))
]

pub some-part : (sizes : List ℕ) (load i : ℕ) → IsStrictlyIncreasing sizes →
    IsPart sizes load i → IfSome (slice_get sizes i) (IsLeastSize sizes load)
some-part sizes load i rise part = elim (cases_lt i (length sizes)) [
  | inl l ↦ rw (slice_get-get_or sizes i 0 l) (least-inside sizes load i rise part l)
  | inr past ↦ rw (slice_get_past sizes i past) tt
]

pub none-part : (sizes : List ℕ) (load i : ℕ) → 1 ≤ length sizes → IsPart sizes load i →
    IsNone (slice_get sizes i) ↔ (largest sizes < load)
none-part sizes load i some part = elim (cases_lt i (length sizes)) [
  | inl l ↦ rw (slice_get-get_or sizes i 0 l) (
    λ none. absurd (grind arith),
    λ over. (let here : load ≤ get_or sizes i 0 = part.after i (omega arith) l in
        let most : get_or sizes i 0 ≤ largest sizes = largest-at sizes i l in
        absurd (omega arith)),
  )
  | inr past ↦ (let end : i ≡ length sizes = le_antisymm part.within past in
      let over : largest sizes < load = largest-outside sizes load some (rw (← end) part) in
      rw (slice_get_past sizes i past) (λ _. over, λ _. refl))
]
