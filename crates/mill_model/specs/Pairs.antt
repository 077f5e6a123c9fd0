-- Pairs of slabs that no move betters, the plans that a search may start from, and the bound on
-- what they lose.
use Rattle.std.specs.Prelude.{ℕ, zero, suc, ◌+◌, ◌*◌, ◌/◌, ◌-◌, ◌≤◌, ◌≡◌, Bool, true, cond, not}
use Rattle.std.specs.Prelude.{◌&&◌, ◌||◌, List, [], ◌∷◌, ◌++◌, map, length, take, leb, ltb}
use Rattle.std.specs.List.{list_all}
use Rattle.list_laws.specs.Sets.{holds, chosen, sets}
use Rattle.mill_model.specs.Slab.{Mill, load, legal}
use Rattle.mill_model.specs.Plan.{slab, loss, IsLegalPlan}
use Rattle.mill_model.specs.Rank.{ranked_orders}
use Rattle.mill_model.specs.Starts.{best_start_loss}
use Rattle.mill_model.specs.declared.order.Order.{Order}

-- the things that are not in a set
abbrev pub complement : List Bool → List Bool
complement [] = []
complement (mark ∷ set) = not mark ∷ complement set

-- whether some orders may be split in two: the set on one slab and the others on another
abbrev pub legal_split : Mill → List Order → List Bool → Bool
legal_split mill orders set =
    legal mill (chosen set orders) && legal mill (chosen (complement set) orders)

-- what the two slabs of a split lose; one of them may be empty, and is then charged nothing
abbrev pub split_loss : (ℕ → ℕ) → List Order → List Bool → ℕ
split_loss charge orders set =
    charge (load (chosen set orders)) + charge (load (chosen (complement set) orders))

-- whether no legal plan of some orders on at most two slabs loses less than a bound
abbrev pub not_bettered : Mill → (ℕ → ℕ) → ℕ → List Order → Bool
not_bettered mill charge bound orders =
    list_all (λ set. not (legal_split mill orders set) || leb bound (split_loss charge orders set))
    (sets (length orders))

-- The pair (a, b) of slabs of a plan has a at most b; the pair (a, a) is slab a alone. Whether a
-- slab is one of a pair, the orders of a pair, and what the pair loses:
abbrev pub one_of : ℕ → ℕ → ℕ → Bool
one_of a b s = holds s (a ∷ b ∷ [])

abbrev pub pair_orders : List Order → List ℕ → ℕ → ℕ → List Order
pair_orders orders plan a b = chosen (map (one_of a b) plan) orders

abbrev pub pair_loss : (ℕ → ℕ) → List Order → List ℕ → ℕ → ℕ → ℕ
pair_loss charge orders plan a b =
    charge (load (slab a plan orders)) + cond (ltb a b) (charge (load (slab b plan orders))) 0

-- whether a pair is closed: no legal plan of its orders on at most two slabs loses less
abbrev pub closed_pair : Mill → (ℕ → ℕ) → List Order → List ℕ → ℕ → ℕ → Bool
closed_pair mill charge orders plan a b =
    not_bettered mill charge (pair_loss charge orders plan a b) (pair_orders orders plan a b)

-- the pair (a, b), if both slabs are used and a is at most b
abbrev pub pair_at : List ℕ → ℕ → ℕ → List (ℕ × ℕ)
pair_at plan a b = cond (leb a b && (holds a plan && holds b plan)) ((a, b) ∷ []) []

-- the pairs (a, 0) to (a, b - 1) of them
abbrev pub pairs_with : List ℕ → ℕ → ℕ → List (ℕ × ℕ)
pairs_with plan a zero = []
pairs_with plan a (suc b) = pairs_with plan a b ++ pair_at plan a b

-- the pairs of which the first slab is below a and the second below n
abbrev pub pairs_below : List ℕ → ℕ → ℕ → List (ℕ × ℕ)
pairs_below plan n zero = []
pairs_below plan n (suc a) = pairs_below plan n a ++ pairs_with plan a n

-- the pairs of used slabs of a plan, by the first and then by the second
abbrev pub pairs_of : List ℕ → List (ℕ × ℕ)
pairs_of plan = pairs_below plan (length plan) (length plan)

-- whether some pairs of a plan, its first r pairs, and all its pairs are closed
abbrev pub all_closed : Mill → (ℕ → ℕ) → List Order → List ℕ → List (ℕ × ℕ) → Bool
all_closed mill charge orders plan pairs =
    list_all (λ pair. closed_pair mill charge orders plan pair.0 pair.1) pairs

abbrev pub first_closed : Mill → (ℕ → ℕ) → List Order → List ℕ → ℕ → Bool
first_closed mill charge orders plan r =
    all_closed mill charge orders plan (take r (pairs_of plan))

abbrev pub pair_closed : Mill → (ℕ → ℕ) → List Order → List ℕ → Bool
pair_closed mill charge orders plan = all_closed mill charge orders plan (pairs_of plan)

-- how many of so many tries are left for the pairs of a plan of n orders that loses so much less
-- than the first one: each unit of gain may take a try of each of the n * (n + 1) / 2 pairs
abbrev pub sure_tries : ℕ → ℕ → ℕ → ℕ
sure_tries moves gain n = moves - gain * n * suc n / 2

-- a plan that a search may start from: it is legal, loses no more than the best greedy start, and
-- has its first pairs closed, as many as the moves are sure to reach
pub record IsPossibleStart (mill : Mill) (charge : ℕ → ℕ) (orders : List Order) (moves : ℕ)
    (plan : List ℕ) : Type 0 where
  pub is_legal : IsLegalPlan mill orders plan
  pub at_most : loss charge plan orders ≤ best_start_loss mill charge (ranked_orders orders)
  pub closed :
      let gain = best_start_loss mill charge (ranked_orders orders) - loss charge plan orders in
      first_closed mill charge orders plan (sure_tries moves gain (length orders)) ≡ true

-- the start bound: the greatest loss of a possible start
pub record IsStartBound (mill : Mill) (charge : ℕ → ℕ) (orders : List Order) (moves : ℕ)
    (bound : ℕ) : Type 0 where
  pub reached : (plan : List ℕ) × IsPossibleStart mill charge orders moves plan
      × (loss charge plan orders ≡ bound)
  pub greatest : (plan : List ℕ) → IsPossibleStart mill charge orders moves plan →
      loss charge plan orders ≤ bound
