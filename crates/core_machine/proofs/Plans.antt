-- The computed plan of a leaf is its plan in the file's order, and there is no other.
use Rattle.std.proofs.Common.{ℕ, zero, suc, ◌+◌, ◌<◌, ◌≡◌, ◌≢◌, Bool, true, false, cond, List, []}
use Rattle.std.proofs.Common.{◌∷◌, ◌++◌, length, map, eqb, ltb, leb, get_or, refl, sym, ap, ap₂}
use Rattle.std.proofs.Common.{◌∙◌, subst, arith, inl, inr, eqb-true, eq-eqb, ne_eqb, ltb-true}
use Rattle.std.specs.List.{AllByRecursion, list_all}
use Rattle.std.proofs.Math.Seq.{get_or-append_seam}
use Rattle.std.proofs.lemmas.List.{get_or-map, get_or_append_left, length-map}
use Rattle.list_laws.specs.Sets.{below}
use Rattle.list_laws.proofs.Among.{Among, map-among}
use Rattle.list_laws.proofs.Lists.{length-below}
use Rattle.list_laws.proofs.Tests.{and-left, and-right, last-or-below}
use Rattle.list_laws.proofs.Times.{times-pos, times-among}
use Rattle.mill_model.specs.Rank.{Placed, rank, placed_from, same_placed}
use Rattle.mill_model.specs.declared.order.Order.{Order}
use Rattle.mill_laws.proofs.Ranked.{rank-length}
use Rattle.mill_laws.proofs.Ranking.{same_placed-refl, same_placed-eq, rank-times}
use Rattle.order_symmetry.specs.Ranked.{RankedOrders, IsRanked, IsPlanOf}
use Rattle.order_symmetry.proofs.Limits.{each-home}
use Rattle.order_symmetry.proofs.Plans.{Apart, IsFilled, filled-plan, rank-apart}
use Rattle.search_step.specs.Serving.{IsPathOf}
use Rattle.search_step.specs.Steps.{IsPlanAt}
use Rattle.search_step.proofs.Lengths.{tree-fits-path}
use Rattle.core_machine.specs.Places.{number_at, plan_at}

pub get-below : (n k : ℕ) → k < n → get_or (below n) k 0 ≡ k
get-below zero k l = absurd (omega arith)
get-below (suc n) k l = elim (last-or-below k n l) [
  | inl e ↦ subst (λ m. get_or (below n ++ n ∷ []) m 0 ≡ m) (sym e)
      (subst (λ m. get_or (below n ++ n ∷ []) m 0 ≡ n) (length-below n)
      (get_or-append_seam (below n) n [] 0))
  | inr b ↦ get_or_append_left (below n) (n ∷ []) 0 k (omega (arith, b, length-below n))
      ∙ get-below n k b
]

abbrev places : List Placed → List ℕ
places xs = map (λ x. x.place) xs

-- the number of the order of a rank
number-there : (xs : List Placed) (path : List ℕ) (j : ℕ) → Apart (places xs) → j < length xs →
    j < length path → number_at (get_or (places xs) j 0) xs path ≡ get_or path j 0
number-there [] path j a l m = absurd (omega arith)
number-there (x ∷ xs) [] j a l m = absurd (omega arith)
number-there (x ∷ xs) (g ∷ path) zero a l m = rw (eq-eqb x.place x.place refl) refl
number-there (x ∷ xs) (g ∷ path) (suc j) a l m =
    let long : length (places xs) ≡ length xs = length-map xs (λ x. x.place) in
    let other : get_or (places xs) j 0 ≢ x.place =
    λ e. a 0 (suc j) (omega arith) (omega arith) (sym e) in
    rw (ne_eqb (get_or (places xs) j 0) x.place other)
    (number-there xs path j (λ i k p q. a (suc i) (suc k) (omega arith) (omega arith))
    (omega arith) (omega arith))

number-low : (n place : ℕ) (xs : List Placed) (path : List ℕ) → 0 < n →
    list_all (λ g. ltb g n) path ≡ true → number_at place xs path < n
number-low n place [] path p h = p
number-low n place (x ∷ xs) [] p h = p
number-low n place (x ∷ xs) (g ∷ path) p h =
    go (eqb place x.place) (ltb-true g n (and-left (ltb g n) (list_all (λ g. ltb g n) path) h))
    (number-low n place xs path p (and-right (ltb g n) (list_all (λ g. ltb g n) path) h))
  where
    go : (b : Bool) → g < n → number_at place xs path < n →
        cond b g (number_at place xs path) < n
    go true here later = here
    go false here later = later

home-low : (n : ℕ) (xs : List Placed) (j : ℕ) → AllByRecursion (λ x. x.place < n) xs →
    j < length xs → get_or (places xs) j 0 < n
home-low n [] j a l = absurd (omega arith)
home-low n (x ∷ xs) zero a l = a.0
home-low n (x ∷ xs) (suc j) a l = home-low n xs j a.1 (omega arith)

module _ (ranked : RankedOrders) (known : IsRanked ranked) (path : List ℕ) where
  abbrev n : ℕ
  n = length ranked.placed

  at-place : (k : ℕ) → k < n → get_or (plan_at ranked path) k 0 ≡ number_at k ranked.placed path
  at-place k l =
      get_or-map (λ place. number_at place ranked.placed path) (below n) k 0 0
      (omega (arith, l, length-below n))
      ∙ ap (λ place. number_at place ranked.placed path) (get-below n k l)

  plan-long : length (plan_at ranked path) ≡ n
  plan-long =
      length-map (below n) (λ place. number_at place ranked.placed path) ∙ length-below n

  apart : Apart (places ranked.placed)
  apart =
      subst (λ xs. Apart (places xs)) (sym known.is.placed) (rank-apart known.problem.orders)

  -- of a leaf, whose numbers are below that of the orders
  module _ (leaf : length path ≡ n) (low : list_all (λ g. ltb g n) path ≡ true) where
    filled : IsFilled (places ranked.placed) path (plan_at ranked path) n
    filled =
        let count : length (places ranked.placed) ≡ n =
        length-map ranked.placed (λ x. x.place) in
        record {
          size = plan-long ∙ sym count;
          done = λ j l. at-place (get_or (places ranked.placed) j 0)
              (home-low n ranked.placed j (each-home ranked known) l)
              ∙ number-there ranked.placed path j apart l (omega arith);
          low = λ j l. (let here = at-place j (omega arith) in
              let less = number-low n j ranked.placed path (omega arith) low in
              subst (λ m. get_or (plan_at ranked path) j 0 < m) (sym count)
              (subst (λ m. m < n) (sym here) less));
        }

    pub filled-is-plan : IsPlanAt ranked path (plan_at ranked path)
    filled-is-plan orders e =
        let long : n ≡ length orders = ap length e ∙ rank-length 0 orders in
        filled-plan orders path (plan_at ranked path) (leaf ∙ long)
        (subst (λ m. IsFilled (places (rank orders)) path (plan_at ranked path) m) long
        (subst (λ xs. IsFilled (places xs) path (plan_at ranked path) n) e filled))

-- the plan of a leaf of the tree
pub plan-is : (ranked : RankedOrders) (path : List ℕ) → IsRanked ranked → IsPathOf ranked path →
    length path ≡ length ranked.placed → IsPlanAt ranked path (plan_at ranked path)
plan-is ranked path known tree leaf =
    filled-is-plan ranked known path leaf
    (and-right (leb (length path) (length ranked.placed)) _ (tree-fits-path ranked path tree))

-- Plans that are read in rank as one path are one.

same-from-places : (a b : List ℕ) → length a ≡ length b →
    ((k : ℕ) → k < length a → get_or a k 0 ≡ get_or b k 0) → a ≡ b
same-from-places [] [] e h = refl
same-from-places [] (y ∷ b) e h = absurd (omega arith)
same-from-places (x ∷ a) [] e h = absurd (omega arith)
same-from-places (x ∷ a) (y ∷ b) e h =
    ap₂ (λ p q. p ∷ q) (h 0 (omega arith))
    (same-from-places a b (omega arith) (λ k l. h (suc k) (omega arith)))

-- each place of the file has a rank
among-placed : (k : ℕ) (orders : List Order) (i : ℕ) (d : Order) → i < length orders →
    Among (record { order = get_or orders i d; place = k + i }) (placed_from k orders)
among-placed k [] i d l = absurd (omega arith)
among-placed k (order ∷ orders) zero d l =
    inl (λ t. record { order = order; place = same t })
  where
    same : k + 0 ≡ k
    same = omega arith
among-placed k (order ∷ orders) (suc i) d l =
    let e : suc k + i ≡ k + suc i = omega arith in
    inr (subst (λ p. Among (record { order = get_or orders i d; place = p })
    (placed_from (suc k) orders)) e (among-placed (suc k) orders i d (omega arith)))

among-ranked : (orders : List Order) (x : Placed) → Among x (placed_from 0 orders) →
    Among x (rank orders)
among-ranked orders x a =
    let there = times-pos same_placed same_placed-refl x (placed_from 0 orders) a in
    times-among same_placed same_placed-eq x (rank orders)
    (let e = rank-times 0 orders x in omega (arith, there, e))

one-plan : (orders : List Order) (path a b : List ℕ) → IsPlanOf orders path a →
    IsPlanOf orders path b → a ≡ b
one-plan orders path a b p q =
    same-from-places a b (long a p ∙ sym (long b q)) (λ k l.
    (let d : Order = record { weight = 0; colour = 0 } in
    let m = long a p in
    map-among (λ x. get_or a x.place 0) (λ x. get_or b x.place 0)
    (record { order = get_or orders k d; place = k }) (rank orders) (p.in_rank ∙ sym q.in_rank)
    (among-ranked orders (record { order = get_or orders k d; place = k })
    (subst (λ p. Among (record { order = get_or orders k d; place = p }) (placed_from 0 orders))
    (from-zero k) (among-placed 0 orders k d (omega (arith, l, m)))))))
  where
    long : (c : List ℕ) → IsPlanOf orders path c → length c ≡ length orders
    long c r = eqb-true (length c) (length orders)
        (and-left (eqb (length c) (length orders)) _ r.each)

    from-zero : (k : ℕ) → 0 + k ≡ k
    from-zero k = omega arith

pub plan-one : (ranked : RankedOrders) (path plan : List ℕ) → IsRanked ranked →
    IsPathOf ranked path → length path ≡ length ranked.placed → IsPlanAt ranked path plan →
    plan ≡ plan_at ranked path
plan-one ranked path plan known tree leaf is =
    one-plan known.problem.orders path plan (plan_at ranked path)
    (is known.problem.orders known.is.placed)
    (plan-is ranked path known tree leaf known.problem.orders known.is.placed)
