-- A plan of a file's orders, and the same plan of the orders by colour.
use Rattle.std.proofs.Common.{ℕ, suc, ◌+◌, ◌≡◌, Bool, true, List, [], ◌∷◌, map, length, drop}
use Rattle.std.proofs.Common.{get_or, ltb, eqb, refl, sym, ap, ap₂, ◌∙◌, arith, subst, eq-eqb, not}
use Rattle.std.proofs.Common.{inl, inr}
use Rattle.std.specs.List.{list_all, list_any}
use Rattle.std.specs.List.Sorted.{IsPermutation}
use Rattle.std.proofs.Math.Seq.{drop-cons}
use Rattle.std.proofs.lemmas.List.{drop_all, length-map}
use Rattle.std.proofs.lemmas.List.Sorted.{IsPermutation-sym, IsPermutation-trans}
use Rattle.std.proofs.lemmas.List.Sorted.{IsPermutation-map}
use Rattle.std.proofs.lemmas.List.Sorted.{length_permutation, list_any-IsPermutation}
use Rattle.std.proofs.lemmas.List.Sorted.{All-permutation}
use Rattle.mill_model.specs.Instance.{IsOrder}
use Rattle.mill_model.specs.Pairs.{closed_pair, all_closed, pairs_of}
use Rattle.mill_model.specs.Plan.{slab, loss, IsLegalPlan}
use Rattle.mill_model.specs.Rank.{Placed, rank, placed_from}
use Rattle.mill_model.specs.Slab.{Mill, legal}
use Rattle.mill_model.specs.declared.order.Order.{Order}
use Rattle.list_laws.proofs.Tests.{either, and-left, and-right}
use Rattle.list_laws.proofs.Sums.{each_below-at, each_below-from}
use Rattle.order_symmetry.specs.Ranked.{RankedOrders, IsRanked}
use Rattle.order_symmetry.proofs.Limits.{largest-high}
use Rattle.large_moves.specs.Coloured.{placed_of, orders_of, plan_of, IsByColour, AreHomes}
use Rattle.large_moves.specs.Coloured.{homes_of}
use Rattle.large_moves.specs.Laid.{IsLaid}
use Rattle.large_moves.specs.declared.coloured.Coloured.{Coloured}
use Rattle.large_moves.proofs.Homes.{rank-permutes, are-homes}
use Rattle.large_moves.proofs.Permuted.{Lying, closed-same, loss-same, slab-legal-same, pairs-same}

-- each order of a file, or by colour, with its slab
abbrev lies : List ℕ → Placed → Lying
lies plan p = (p.order, get_or plan p.place 0)

file-orders : (plan : List ℕ) (k : ℕ) (orders : List Order) →
    map (λ z. z.0) (map (lies plan) (placed_from k orders)) ≡ orders
file-orders plan k [] = refl
file-orders plan k (o ∷ orders) = ap (λ l. o ∷ l) (file-orders plan (suc k) orders)

file-plan : (plan : List ℕ) (k : ℕ) (orders : List Order) → length plan ≡ k + length orders →
    map (λ z. z.1) (map (lies plan) (placed_from k orders)) ≡ drop k plan
file-plan plan k [] e = sym (drop_all k plan (omega (arith, e)))
file-plan plan k (o ∷ orders) e =
    ap (λ l. get_or plan k 0 ∷ l) (file-plan plan (suc k) orders (omega (arith, e)))
    ∙ sym (drop-cons plan k 0 (omega (arith, e)))

coloured-orders : (plan : List ℕ) (coloured : List Coloured) →
    map (λ z. z.0) (map (lies plan) (map placed_of coloured)) ≡ orders_of coloured
coloured-orders plan [] = refl
coloured-orders plan (c ∷ coloured) = ap (λ l. c.order ∷ l) (coloured-orders plan coloured)

coloured-plan : (plan : List ℕ) (coloured : List Coloured) →
    map (λ z. z.1) (map (lies plan) (map placed_of coloured)) ≡ plan_of coloured plan
coloured-plan plan [] = refl
coloured-plan plan (c ∷ coloured) =
    ap (λ l. get_or plan c.home 0 ∷ l) (coloured-plan plan coloured)

placed-length : (k : ℕ) (orders : List Order) → length (placed_from k orders) ≡ length orders
placed-length k [] = refl
placed-length k (o ∷ orders) = ap suc (placed-length (suc k) orders)

-- What holds of laid things holds of them in another order.

all-any : (n : ℕ) (xs : List ℕ) →
    list_all (λ s. ltb s n) xs ≡ not (list_any (λ s. not (ltb s n)) xs)
all-any n [] = refl
all-any n (x ∷ xs) = elim (either (ltb x n)) [
  | inl e ↦ rw e (all-any n xs)
  | inr e ↦ rw e refl
]

all-in : (n : ℕ) (xs ys : List ℕ) → IsPermutation xs ys → list_all (λ s. ltb s n) xs ≡ true →
    list_all (λ s. ltb s n) ys ≡ true
all-in n xs ys h e = all-any n ys
    ∙ ap not (sym (list_any-IsPermutation (λ s. not (ltb s n)) xs ys h)) ∙ sym (all-any n xs) ∙ e

lengths : (zs ys : List Lying) → IsPermutation zs ys →
    length (map (λ z. z.0) zs) ≡ length (map (λ z. z.0) ys)
lengths zs ys p = length-map zs (λ z. z.0) ∙ sym (length_permutation zs ys p)
    ∙ sym (length-map ys (λ z. z.0))

legal-there : (mill : Mill) (charge : ℕ → ℕ) (zs ys : List Lying) → IsPermutation zs ys →
    IsLegalPlan mill (map (λ z. z.0) zs) (map (λ z. z.1) zs) →
    IsLegalPlan mill (map (λ z. z.0) ys) (map (λ z. z.1) ys)
legal-there mill charge zs ys p h =
    let n : length (map (λ (z : Lying). z.0) zs) ≡ length (map (λ (z : Lying). z.0) ys) =
    lengths zs ys p in
    let long : eqb (length (map (λ (z : Lying). z.1) ys)) (length (map (λ (z : Lying). z.0) ys))
    ≡ true = eq-eqb _ _ (length-map ys (λ z. z.1) ∙ sym (length-map ys (λ z. z.0))) in
    let low : list_all (λ s. ltb s (length (map (λ (z : Lying). z.0) ys)))
    (map (λ (z : Lying). z.1) ys) ≡ true =
    subst (λ n. list_all (λ s. ltb s n) (map (λ (z : Lying). z.1) ys) ≡ true) n
    (all-in (length (map (λ (z : Lying). z.0) zs)) (map (λ z. z.1) zs) (map (λ z. z.1) ys)
    (IsPermutation-map (λ (z : Lying). z.1) zs ys p)
    (and-right (eqb (length (map (λ (z : Lying). z.1) zs)) (length (map (λ (z : Lying). z.0) zs)))
    _ h.each)) in
    record {
      each = rw (long, low) refl;
      slabs = each_below-from (length (map (λ (z : Lying). z.0) ys)) (λ s. legal mill
          (slab s (map (λ (z : Lying). z.1) ys) (map (λ (z : Lying). z.0) ys)))
          (λ s l. sym (slab-legal-same mill charge zs ys s p)
          ∙ each_below-at (length (map (λ (z : Lying). z.0) zs)) (λ s. legal mill
          (slab s (map (λ (z : Lying). z.1) zs) (map (λ (z : Lying). z.0) zs))) s h.slabs
          (omega (arith, l, n)));
    }

all-imply : (p q : ℕ × ℕ → Bool) (xs : List (ℕ × ℕ)) →
    ((x : ℕ × ℕ) → p x ≡ true → q x ≡ true) → list_all p xs ≡ true → list_all q xs ≡ true
all-imply p q [] h e = refl
all-imply p q (x ∷ xs) h e =
    rw (h x (and-left (p x) (list_all p xs) e))
    (all-imply p q xs h (and-right (p x) (list_all p xs) e))

closed-there : (mill : Mill) (charge : ℕ → ℕ) (zs ys : List Lying) → IsPermutation zs ys →
    (pairs : List (ℕ × ℕ)) →
    all_closed mill charge (map (λ z. z.0) zs) (map (λ z. z.1) zs) pairs ≡ true →
    all_closed mill charge (map (λ z. z.0) ys) (map (λ z. z.1) ys) pairs ≡ true
closed-there mill charge zs ys p pairs h = all-imply
    (λ x. closed_pair mill charge (map (λ (z : Lying). z.0) zs) (map (λ (z : Lying). z.1) zs) x.0
    x.1)
    (λ x. closed_pair mill charge (map (λ (z : Lying). z.0) ys) (map (λ (z : Lying). z.1) ys) x.0
    x.1) pairs (λ x e. closed-same mill charge zs ys x.0 x.1 p e) h

module _ (orders : List Order) (coloured : List Coloured)
    (by : IsByColour (rank orders) coloured) where
  permuted : IsPermutation (map placed_of coloured) (placed_from 0 orders)
  permuted = IsPermutation-trans (map placed_of coloured) (rank orders) (placed_from 0 orders)
      (IsPermutation-sym (rank orders) (map placed_of coloured) by.same) (rank-permutes 0 orders)

  pub homes : AreHomes (homes_of coloured) (length orders)
  homes = are-homes orders coloured permuted

  pub count : length coloured ≡ length orders
  count = sym (length-map coloured placed_of)
      ∙ sym (length_permutation (map placed_of coloured) (placed_from 0 orders) permuted)
      ∙ placed-length 0 orders

  module _ (plan : List ℕ) (long : length plan ≡ length orders) where
    abbrev here : List Lying
    here = map (lies plan) (map placed_of coloured)

    abbrev there : List Lying
    there = map (lies plan) (placed_from 0 orders)

    same : IsPermutation here there
    same = IsPermutation-map (lies plan) (map placed_of coloured) (placed_from 0 orders) permuted

    orders-there : map (λ z. z.0) there ≡ orders
    orders-there = file-orders plan 0 orders

    plan-there : map (λ z. z.1) there ≡ plan
    plan-there = file-plan plan 0 orders (omega (arith, long))

    pub same-loss : (mill : Mill) (charge : ℕ → ℕ) →
        loss charge (plan_of coloured plan) (orders_of coloured) ≡ loss charge plan orders
    same-loss mill charge =
        ap₂ (loss charge) (sym (coloured-plan plan coloured)) (sym (coloured-orders plan coloured))
        ∙ loss-same mill charge here there same
        ∙ ap₂ (loss charge) plan-there orders-there

    pub legal-here : (mill : Mill) → IsLegalPlan mill orders plan →
        IsLegalPlan mill (orders_of coloured) (plan_of coloured plan)
    legal-here mill h =
        subst (λ o. IsLegalPlan mill o (plan_of coloured plan)) (coloured-orders plan coloured)
        (subst (IsLegalPlan mill (map (λ (z : Lying). z.0) here)) (coloured-plan plan coloured)
        (legal-there mill (λ l. 0) there here
        (IsPermutation-sym here there same)
        (subst (λ o. IsLegalPlan mill o (map (λ (z : Lying). z.1) there)) (sym orders-there)
        (subst (IsLegalPlan mill orders) (sym plan-there) h))))

    pub legal-in-file : (mill : Mill) →
        IsLegalPlan mill (orders_of coloured) (plan_of coloured plan) →
        IsLegalPlan mill orders plan
    legal-in-file mill h =
        subst (λ o. IsLegalPlan mill o plan) orders-there
        (subst (IsLegalPlan mill (map (λ (z : Lying). z.0) there)) plan-there
        (legal-there mill (λ l. 0) here there same
        (subst (λ o. IsLegalPlan mill o (map (λ (z : Lying). z.1) here))
        (sym (coloured-orders plan coloured))
        (subst (IsLegalPlan mill (orders_of coloured)) (sym (coloured-plan plan coloured)) h))))

    pub same-pairs : pairs_of (plan_of coloured plan) ≡ pairs_of plan
    same-pairs =
        ap pairs_of (sym (coloured-plan plan coloured))
        ∙ pairs-same here there same (length-map here (λ z. z.1)
        ∙ sym (length_permutation here there same) ∙ sym (length-map there (λ z. z.1)))
        ∙ ap pairs_of plan-there

    pub closed-in-file : (mill : Mill) (charge : ℕ → ℕ) (pairs : List (ℕ × ℕ)) →
        all_closed mill charge (orders_of coloured) (plan_of coloured plan) pairs ≡ true →
        all_closed mill charge orders plan pairs ≡ true
    closed-in-file mill charge pairs h =
        subst (λ o. all_closed mill charge o plan pairs ≡ true) orders-there
        (subst (λ p. all_closed mill charge (map (λ (z : Lying). z.0) there) p pairs ≡ true)
        plan-there
        (closed-there mill charge here there same pairs
        (subst (λ o. all_closed mill charge o (map (λ (z : Lying). z.1) here) pairs ≡ true)
        (sym (coloured-orders plan coloured))
        (subst (λ p. all_closed mill charge (orders_of coloured) p pairs ≡ true)
        (sym (coloured-plan plan coloured)) h))))

-- What a mover is given.

placed-orders : (k : ℕ) (orders : List Order) →
    map (λ p. p.order) (placed_from k orders) ≡ orders
placed-orders k [] = refl
placed-orders k (o ∷ orders) = ap (λ l. o ∷ l) (placed-orders (suc k) orders)

own-orders : (coloured : List Coloured) →
    map (λ p. p.order) (map placed_of coloured) ≡ orders_of coloured
own-orders [] = refl
own-orders (c ∷ coloured) = ap (λ l. c.order ∷ l) (own-orders coloured)

module _ (ranked : RankedOrders) (known : IsRanked ranked) (coloured : List Coloured)
    (by : IsByColour ranked.placed coloured) where
  pub by-rank : IsByColour (rank known.problem.orders) coloured
  by-rank = subst (λ placed. IsByColour placed coloured) known.is.placed by

  pub same-orders : IsPermutation known.problem.orders (orders_of coloured)
  same-orders =
      subst (λ os. IsPermutation os (orders_of coloured)) (placed-orders 0 known.problem.orders)
      (subst (IsPermutation (map (λ (p : Placed). p.order) (placed_from 0 known.problem.orders)))
      (own-orders coloured)
      (IsPermutation-map (λ (p : Placed). p.order) (placed_from 0 known.problem.orders)
      (map placed_of coloured) (IsPermutation-sym (map placed_of coloured)
      (placed_from 0 known.problem.orders)
      (permuted known.problem.orders coloured by-rank))))

  pub laid-by : (plan : List ℕ) → IsLegalPlan ranked.mill (orders_of coloured) plan →
      IsLaid (record { mill = ranked.mill; orders = orders_of coloured; plan = plan })
  laid-by plan is_legal = record {
    sizes = largest-high ranked known;
    few_colours =
        let high = known.kept.within.p_high in
        let is : ranked.mill.most_colours ≡ known.problem.p =
        ap (λ mill. mill.most_colours) known.is.mill in
        omega (arith, high, is);
    few =
        let few = known.kept.within.few_orders in
        let n = length-map coloured (λ c. c.order) in
        let m = count known.problem.orders coloured by-rank in
        omega (arith, few, n, m);
    each = All-permutation IsOrder known.problem.orders (orders_of coloured) same-orders
        known.kept.within.each_order;
    together = by.together;
    is_legal = is_legal;
  }
