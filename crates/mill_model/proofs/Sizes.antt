-- Sizes that rise.
use Rattle.std.specs.Prelude.{All, Contains}
use native.Mathlib.Numerals.{unary_clauses}
use Rattle.std.specs.List.{dedup}
use Rattle.std.specs.List.Sorted.{IsStrictlyIncreasing, IsSorted, IsPermutation}
use Rattle.std.specs.Ordering.{nat_cmp}
use Rattle.std.proofs.Common.{refl, inl, inr, ◌≡◌, ℕ, suc, ◌+◌, ◌-◌, ◌<◌, ◌≤◌, max, List, [], ◌∷◌}
use Rattle.std.proofs.Common.{length, get_or, eqb, arith, subst, sym, ap, ◌∙◌}
use Rattle.std.proofs.lemmas.Map.Keys.{IsStrictlyIncreasing-dedup}
use Rattle.std.proofs.lemmas.List.Kept.{Contains-dedup_nat, Contains-from_dedup}
use Rattle.std.proofs.lemmas.List.Filters.{All-dedup}
use Rattle.std.proofs.lemmas.List.Sorted.{Contains-permutation, IsPermutation-sym, All-permutation}
use Rattle.mill_model.specs.Instance.{largest}
use Rattle.mill_model.specs.Instance.{AreSizesOf, IsWithin, IsSize}
use Rattle.mill_model.specs.declared.order.Order.{Order}
use Rattle.mill_model.proofs.RisingLists.{rise_later}
use Rattle.std.proofs.lemmas.List.Elements.{Contains-get_or}

-- what a sort and a `dedup` leave are the sizes
pub sorted_once : (xs ys zs : List ℕ) → IsPermutation xs ys → IsSorted nat_cmp ys →
    zs ≡ dedup eqb ys → AreSizesOf xs zs
sorted_once xs ys zs moved sorted is =
    let P : List ℕ → Type 0 = λ zs. AreSizesOf xs zs in
    subst P (sym is) (record {
      rise = IsStrictlyIncreasing-dedup ys sorted;
      kept = λ n h. Contains-dedup_nat ys n (Contains-permutation xs ys n moved h);
      only =
          λ n h. Contains-permutation ys xs n (IsPermutation-sym xs ys moved)
          (Contains-from_dedup eqb ys n h);
    })

-- the last of rising sizes is the largest
pub largest_last : (xs : List ℕ) → IsStrictlyIncreasing xs →
    largest xs ≡ get_or xs (length xs - 1) 0
largest_last [] rise = omega arith
largest_last (x ∷ []) rise = omega arith
largest_last (x ∷ y ∷ xs) rise =
    let first : x < y = rise 0 (omega arith) in
    let rest : largest (y ∷ xs) ≡ get_or (y ∷ xs) (length (y ∷ xs) - 1) 0 =
    largest_last (y ∷ xs) (rise_later x (y ∷ xs) rise) in
    let larger : x < largest (y ∷ xs) = omega arith in
    let one : max x (largest (y ∷ xs)) ≡ largest (y ∷ xs) = omega arith in
    one ∙ rest ∙ simp unary_clauses refl

-- they are within the limits where the given ones are
pub within_once : (xs ys zs : List ℕ) (stated : ℕ) (orders : List Order) (p : ℕ) →
    IsPermutation xs ys → zs ≡ dedup eqb ys → length zs ≤ length xs → AreSizesOf xs zs →
    IsWithin xs stated orders p → IsWithin zs stated orders p
within_once xs ys zs stated orders p moved is short sizes h =
    let first : Contains zs (get_or xs 0 0) =
    sizes.kept (get_or xs 0 0) (Contains-get_or xs 0 0 (omega arith)) in
    let P : List ℕ → Type 0 = λ zs. All IsSize zs in
    record {
      some_size = omega (arith, first.1);
      few_sizes = omega arith;
      each_size =
          subst P (sym is) (All-dedup eqb IsSize ys (All-permutation IsSize xs ys moved
          h.each_size));
      stated_limit = h.stated_limit;
      few_orders = h.few_orders;
      each_order = h.each_order;
      p_low = h.p_low;
      p_high = h.p_high;
    }

-- each of some sizes is within the limit, so the largest is
pub largest-small : (sizes : List ℕ) → All IsSize sizes → largest sizes ≤ 20000
largest-small [] h = omega arith
largest-small (size ∷ sizes) h =
    let first = h 0 0 (omega arith) in
    let ih : largest sizes ≤ 20000 = largest-small sizes (λ k d l. h (suc k) d (omega arith)) in
    omega (arith, first.1)
