-- The pairs of slab and colour of a plan: what they say of each slab's colours.
use Rattle.std.proofs.Common.{ℕ, zero, suc, ◌+◌, ◌<◌, ◌≡◌, Bool, true, false, ◌&&◌, ◌||◌, List, []}
use Rattle.std.proofs.Common.{◌∷◌, ◌++◌, map, length, take, get_or, eqb, ltb, refl, sym, ap, ap₂}
use Rattle.std.proofs.Common.{◌∙◌, arith, inl, inr, eqb-true, ltb-true, Ordering}
use Rattle.std.specs.Prelude.{All}
use Rattle.std.specs.Cmp.{IsTotalOrder, both_tied, unsigned_ties}
use Rattle.std.specs.List.{list_all, list_any, dedup, dedup_from, IsDistinct, AllByRecursion}
use Rattle.std.specs.List.Sorted.{IsPermutation, IsSorted}
use Rattle.std.specs.Ordering.{ordering_then, nat_cmp, eq_by_cmp}
use Rattle.std.proofs.lemmas.Cmp.{then_total, on_total, nat_cmp_total}
use Rattle.std.proofs.lemmas.List.Elements.{All-cons, All-nil}
use Rattle.std.proofs.lemmas.List.Kept.{IsStrictlySortedBy-dedup}
use Rattle.std.proofs.lemmas.List.Sorted.{list_any-IsPermutation}
use Rattle.std.proofs.lemmas.Map.Keys.{IsDistinct-from_sorted}
use Rattle.list_laws.specs.Sets.{holds, different}
use Rattle.mill_model.specs.Plan.{slab}
use Rattle.mill_model.specs.declared.order.Order.{Order}
use Rattle.list_laws.proofs.Tests.{either, and-left, and-right}
use Rattle.plan_check.specs.Tallies.{colours_on}

-- the slab and the colour of each order
abbrev pub pairs_of : List ℕ → List Order → List (ℕ × ℕ)
pairs_of [] orders = []
pairs_of (s ∷ plan) [] = []
pairs_of (s ∷ plan) (order ∷ orders) = (s, order.colour) ∷ pairs_of plan orders

-- one more order gives one more pair
pairs-more : (plan : List ℕ) (orders : List Order) (i : ℕ) (d : Order) →
    i < length plan → length plan ≡ length orders →
    pairs_of (take (suc i) plan) orders
    ≡ pairs_of (take i plan) orders ++ (get_or plan i 0, (get_or orders i d).colour) ∷ []
pairs-more [] orders i d l same = absurd (omega arith)
pairs-more (t ∷ plan) [] i d l same = absurd (omega arith)
pairs-more (t ∷ plan) (order ∷ orders) zero d l same = refl
pairs-more (t ∷ plan) (order ∷ orders) (suc i) d l same =
    ap (λ more. (t, order.colour) ∷ more) (pairs-more plan orders i d (omega arith) (omega arith))

pub pairs-next : (plan : List ℕ) (orders : List Order) (i : ℕ) (d : Order) →
    (pairs : List (ℕ × ℕ)) → i < length plan → length plan ≡ length orders →
    pairs ≡ pairs_of (take i plan) orders →
    pairs ++ (get_or plan i 0, (get_or orders i d).colour) ∷ []
    ≡ pairs_of (take (i + 1) plan) orders
pairs-next plan orders i d pairs l same before =
    let next : i + 1 ≡ suc i = omega arith in
    rw (next, before) (sym (pairs-more plan orders i d l same))

-- as many as the orders
pub length-pairs_of : (plan : List ℕ) (orders : List Order) → length plan ≡ length orders →
    length (pairs_of plan orders) ≡ length orders
length-pairs_of [] [] same = refl
length-pairs_of [] (order ∷ orders) same = absurd (omega arith)
length-pairs_of (s ∷ plan) [] same = absurd (omega arith)
length-pairs_of (s ∷ plan) (order ∷ orders) same =
    ap suc (length-pairs_of plan orders (omega arith))

-- their slabs are those of the plan
pub below-pairs_of : (n : ℕ) (plan : List ℕ) (orders : List Order) →
    list_all (λ s. ltb s n) plan ≡ true → All (λ pair. pair.0 < n) (pairs_of plan orders)
below-pairs_of n [] orders all = All-nil (λ pair. pair.0 < n)
below-pairs_of n (s ∷ plan) [] all = All-nil (λ pair. pair.0 < n)
below-pairs_of n (s ∷ plan) (order ∷ orders) all =
    All-cons (λ pair. pair.0 < n) (s, order.colour) (pairs_of plan orders)
    (ltb-true s n (and-left (ltb s n) (list_all (λ s. ltb s n) plan) all))
    (below-pairs_of n plan orders (and-right (ltb s n) (list_all (λ s. ltb s n) plan) all))

-- the colours that stand beside a slab are those of its orders
pub colours-pairs_of : (s : ℕ) (plan : List ℕ) (orders : List Order) →
    colours_on s (pairs_of plan orders) ≡ map (λ order. order.colour) (slab s plan orders)
colours-pairs_of s [] orders = refl
colours-pairs_of s (t ∷ plan) [] = refl
colours-pairs_of s (t ∷ plan) (order ∷ orders) = elim (either (eqb s t)) [
  | inl e ↦ rw e (ap (λ more. order.colour ∷ more) (colours-pairs_of s plan orders))
  | inr e ↦ rw e (colours-pairs_of s plan orders)
]

-- pairs as a tuple compares them
abbrev pub pair_cmp : ℕ × ℕ → ℕ × ℕ → Ordering
pair_cmp x y = ordering_then (nat_cmp x.0 y.0) (nat_cmp x.1 y.1)

abbrev pub same_pair : ℕ × ℕ → ℕ × ℕ → Bool
same_pair x y = eqb x.0 y.0 && eqb x.1 y.1

pair-total : IsTotalOrder pair_cmp
pair-total = then_total (on_total (λ p. p.0) nat_cmp_total) (on_total (λ p. p.1) nat_cmp_total)

pair-tie : (x y : ℕ × ℕ) → same_pair x y ≡ eq_by_cmp pair_cmp x y
pair-tie x y =
    both_tied _ _ (nat_cmp x.0 y.0) (nat_cmp x.1 y.1) (unsigned_ties x.0 y.0)
    (unsigned_ties x.1 y.1)

-- a colour stands beside a slab where their pair is one of the pairs
holds-any : (s c : ℕ) (pairs : List (ℕ × ℕ)) →
    holds c (colours_on s pairs) ≡ list_any (λ pair. same_pair (s, c) pair) pairs
holds-any s c [] = refl
holds-any s c (pair ∷ pairs) = elim (either (eqb s pair.0)) [
  | inl e ↦ rw e (ap (λ rest. eqb c pair.1 || rest) (holds-any s c pairs))
  | inr e ↦ rw e (holds-any s c pairs)
]

-- the same pair is a slab's colour alike
same-alike : (s c : ℕ) (x y : ℕ × ℕ) → same_pair x y ≡ true →
    same_pair (s, c) x ≡ same_pair (s, c) y
same-alike s c x y same =
    ap₂ (λ a b. a && b)
    (ap (eqb s) (eqb-true x.0 y.0 (and-left (eqb x.0 y.0) (eqb x.1 y.1) same)))
    (ap (eqb c) (eqb-true x.1 y.1 (and-right (eqb x.0 y.0) (eqb x.1 y.1) same)))

-- leaving out repeats leaves each pair
any-dedup : (s c : ℕ) (first : ℕ × ℕ) (pairs : List (ℕ × ℕ)) →
    list_any (λ pair. same_pair (s, c) pair) (dedup_from same_pair first pairs)
    ≡ (same_pair (s, c) first || list_any (λ pair. same_pair (s, c) pair) pairs)
any-dedup s c first [] = refl
any-dedup s c first (pair ∷ pairs) = elim (either (same_pair pair first)) [
  | inl e ↦ rw e (any-dedup s c first pairs
      ∙ twice (same_pair (s, c) first) (same_pair (s, c) pair) _ (same-alike s c pair first e))
  | inr e ↦ rw e (ap (λ rest. same_pair (s, c) first || rest) (any-dedup s c pair pairs))
]
  where
    twice : (a b rest : Bool) → b ≡ a → (a || rest) ≡ (a || (b || rest))
    twice true b rest same = refl
    twice false b rest same = rw same

-- sorting and leaving out repeats leave each slab its colours
pub holds-settled : (s c : ℕ) (pairs sorted settled : List (ℕ × ℕ)) →
    IsPermutation pairs sorted → settled ≡ dedup same_pair sorted →
    holds c (colours_on s settled) ≡ holds c (colours_on s pairs)
holds-settled s c pairs sorted settled moved is =
    holds-any s c settled ∙ ap (list_any test) is ∙ left sorted
    ∙ sym (list_any-IsPermutation test pairs sorted moved) ∙ sym (holds-any s c pairs)
  where
    test : ℕ × ℕ → Bool
    test pair = same_pair (s, c) pair

    left : (xs : List (ℕ × ℕ)) → list_any test (dedup same_pair xs) ≡ list_any test xs
    left [] = refl
    left (x ∷ xs) = any-dedup s c x xs

-- a pair that stands nowhere later has a colour that stands nowhere later beside its slab
not-later : (x : ℕ × ℕ) (ys : List (ℕ × ℕ)) →
    AllByRecursion (λ y. eq_by_cmp pair_cmp x y ≡ false) ys → holds x.1 (colours_on x.0 ys) ≡ false
not-later x [] apart = refl
not-later x (y ∷ ys) apart = elim (either (eqb x.0 y.0)) [
  | inl e ↦ (let other : (eqb x.0 y.0 && eqb x.1 y.1) ≡ false = pair-tie x y ∙ apart.0 in
      let colour : eqb x.1 y.1 ≡ false = rw e at other in
      rw (e, colour) (not-later x ys apart.1))
  | inr e ↦ rw e (not-later x ys apart.1)
]

-- distinct pairs have each colour of a slab once
once-distinct : (s : ℕ) (pairs : List (ℕ × ℕ)) → IsDistinct (eq_by_cmp pair_cmp) pairs →
    different (colours_on s pairs) ≡ length (colours_on s pairs)
unfolding IsDistinct
once-distinct s [] apart = refl
once-distinct s (x ∷ xs) apart = elim (either (eqb s x.0)) [
  | inl e ↦ (let here : s ≡ x.0 = eqb-true s x.0 e in
      let new : holds x.1 (colours_on s xs) ≡ false = rw here (not-later x xs apart.0) in
      rw (e, new) (ap suc (once-distinct s xs apart.1)))
  | inr e ↦ rw e (once-distinct s xs apart.1)
]

-- sorted and without repeats each colour stands once
pub once-settled : (s : ℕ) (sorted settled : List (ℕ × ℕ)) → IsSorted pair_cmp sorted →
    settled ≡ dedup same_pair sorted →
    different (colours_on s settled) ≡ length (colours_on s settled)
once-settled s sorted settled rise is =
    once-distinct s settled (IsDistinct-from_sorted pair_cmp settled
    (rw is (IsStrictlySortedBy-dedup pair-total pair-tie sorted rise)))
