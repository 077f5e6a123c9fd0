-- Sets of orders that are legal with a group, their slacks at some prices, and the least of these.
use Rattle.std.proofs.Common.{ℕ, zero, suc, ◌<◌, ◌≤◌, ◌≡◌, Bool, true, false, cond, List, [], ◌∷◌}
use Rattle.std.proofs.Common.{◌++◌, map, filter, length, get_or, set, ℤ, pos, ◌+ℤ◌, ◌-ℤ◌}
use Rattle.std.proofs.Common.{◌≤ℤ◌, refl, ap, ◌∙◌, arith, subst, append-nil, length-set}
use Rattle.std.proofs.lemmas.Bool.Decides.{nat_tests}
use Rattle.std.proofs.lemmas.Int.{ints}
use Rattle.list_laws.specs.Sets.{chosen, sets, int_sum}
use Rattle.mill_model.specs.Slab.{Mill, legal}
use Rattle.mill_model.specs.Prices.{slack, legal_sets, least_slack}
use Rattle.mill_model.specs.Bounds.{in_set, slacks}
use Rattle.mill_model.specs.declared.order.Order.{Order}
use Rattle.list_laws.proofs.Among.{Among, Among-map, Among-unmap, Among-filter, Among-unfilter}
use Rattle.list_laws.proofs.Among.{among-sets}
use Rattle.mill_laws.proofs.Least.{least-among, least-glb}
use Rattle.list_laws.proofs.Lists.{nothing}
use Rattle.list_laws.proofs.Lists.{nothing-chosen, nothing-length}

-- The set with nothing.

pub nothing-in : (i n : ℕ) → in_set i (nothing n) ≡ false
unfolding nothing
nothing-in i zero = refl
nothing-in zero (suc n) = refl
nothing-in (suc i) (suc n) = nothing-in i n

-- The set with thing i alone.

unfoldable pub single : ℕ → ℕ → List Bool
single i n = set (nothing n) i true

pub single-chosen : (i : ℕ) (rest : List Order) (d : Order) → i < length rest →
    chosen (single i (length rest)) rest ≡ get_or rest i d ∷ []
unfolding single nothing
single-chosen i [] d h = absurd (omega arith)
single-chosen zero (o ∷ rest) d h = ap (λ l. o ∷ l) (nothing-chosen (length rest) rest)
single-chosen (suc i) (o ∷ rest) d h = single-chosen i rest d (omega arith)

pub single-in : (i n : ℕ) → i < n → in_set i (single i n) ≡ true
unfolding single nothing
single-in i zero h = absurd (omega arith)
single-in zero (suc n) h = refl
single-in (suc i) (suc n) h = single-in i n (omega arith)

pub single-sum : (i n : ℕ) (prices : List ℤ) → i < n → length prices ≡ n →
    int_sum (chosen (single i n) prices) ≡ get_or prices i (pos 0)
unfolding single nothing
single-sum i zero prices h e = absurd (omega arith)
single-sum i (suc n) [] h e = absurd (omega arith)
single-sum zero (suc n) (y ∷ prices) h e =
    omega (arith, ints, ap int_sum (nothing-chosen n prices))
single-sum (suc i) (suc n) (y ∷ prices) h e = single-sum i n prices (omega arith) (omega arith)

-- an order that fits a slab is a legal set alone
pub alone : (mill : Mill) (rest : List Order) (i : ℕ) (d : Order) → i < length rest →
    (get_or rest i d).weight ≤ mill.largest → 1 ≤ mill.most_colours →
    (set : List Bool) × Among set (legal_sets mill [] rest) × (in_set i set ≡ true)
unfolding single
alone mill rest i d h w c =
    let one = single i (length rest) in
    let long : length one ≡ length rest =
    length-set (nothing (length rest)) i true ∙ nothing-length (length rest) in (
      one,
      Among-filter (λ set. legal mill ([] ++ chosen set rest)) one (sets (length rest))
          (rw (single-chosen i rest d h) (fits (get_or rest i d) w))
          (subst (λ n. Among one (sets n)) long (among-sets one)),
      single-in i (length rest) h,
    )
  where
    fits : (o : Order) → o.weight ≤ mill.largest → legal mill (o ∷ []) ≡ true
    fits o w = grind (arith, nat_tests)

pub alone-priced : (mill : Mill) (rest : List Order) (i : ℕ) (d : Order) → i < length rest →
    (get_or rest i d).weight ≤ mill.largest → 1 ≤ mill.most_colours →
    (set : List Bool) × Among set (legal_sets mill [] rest) × (in_set i set ≡ true)
    × ((prices : List ℤ) → length prices ≡ length rest →
    int_sum (chosen set prices) ≡ get_or prices i (pos 0))
unfolding alone
alone-priced mill rest i d h w c =
    let a = alone mill rest i d h w c in
    (single i (length rest), a.1, a.2, λ prices e. single-sum i (length rest) prices h e)

-- The sets that are legal with a group.

module _ (mill : Mill) (charge : ℕ → ℕ) (group rest : List Order) (prices : List ℤ)
    (test : List Bool → Bool) where
  -- the slacks of those that pass a test
  pub among-slacks : (set : List Bool) → Among set (legal_sets mill group rest) →
      test set ≡ true →
      Among (slack charge group rest prices set) (slacks mill charge group rest prices test)
  among-slacks set h t =
      Among-map (slack charge group rest prices) set (filter test (legal_sets mill group rest))
      (Among-filter test set (legal_sets mill group rest) t h)

  pub from-slacks : (x : ℤ) → Among x (slacks mill charge group rest prices test) →
      (set : List Bool) × Among set (legal_sets mill group rest) × (test set ≡ true)
      × (x ≡ slack charge group rest prices set)
  from-slacks x h =
      let r = Among-unmap (slack charge group rest prices) x
      (filter test (legal_sets mill group rest)) h in
      let passed = Among-unfilter test r.0 (legal_sets mill group rest) r.1 in
      (r.0, passed.0, passed.1, r.2)

module _ (mill : Mill) (charge : ℕ → ℕ) (group rest : List Order)
    (legal_group : legal mill group ≡ true) where
  pub nothing-legal : Among (nothing (length rest)) (legal_sets mill group rest)
  nothing-legal =
      let none = nothing (length rest) in
      Among-filter (λ set. legal mill (group ++ chosen set rest)) none (sets (length rest))
      (rw (nothing-chosen (length rest) rest, append-nil) legal_group)
      (subst (λ n. Among none (sets n)) (nothing-length (length rest)) (among-sets none))

  pub empty-slack : (prices : List ℤ) →
      slack charge group rest prices [] ≡ slack charge group rest prices (nothing (length rest))
  empty-slack prices =
      rw (nothing-chosen (length rest) rest, nothing-chosen (length rest) prices) refl

  -- The least slack of a group is the greatest number that is below the slack of each legal set.

  pub least_slack-glb : (prices : List ℤ) (v : ℤ) →
      ((set : List Bool) → Among set (legal_sets mill group rest) →
      v ≤ℤ slack charge group rest prices set) → v ≤ℤ least_slack mill charge group rest prices
  least_slack-glb prices v h =
      least-glb v (slack charge group rest prices [])
      (map (slack charge group rest prices) (legal_sets mill group rest))
      (rw (empty-slack prices) (h (nothing (length rest)) nothing-legal))
      (λ x i. let r = Among-unmap (slack charge group rest prices) x
      (legal_sets mill group rest) i in rw r.2 (h r.0 r.1))

  pub least_slack-below : (prices : List ℤ) (set : List Bool) →
      Among set (legal_sets mill group rest) →
      least_slack mill charge group rest prices ≤ℤ slack charge group rest prices set
  least_slack-below prices set i =
      least-among (slack charge group rest prices []) (slack charge group rest prices set)
      (map (slack charge group rest prices) (legal_sets mill group rest))
      (Among-map (slack charge group rest prices) set (legal_sets mill group rest) i)

-- One price is changed.

pub price-change : (i : ℕ) (marks : List Bool) (prices : List ℤ) (u : ℤ) → i < length prices →
    int_sum (chosen marks (set prices i u))
    ≡ int_sum (chosen marks (set prices i (pos 0))) +ℤ cond (in_set i marks) u (pos 0)
price-change i marks [] u h = absurd (omega arith)
price-change zero [] (y ∷ prices) u h = omega (arith, ints)
price-change zero (true ∷ marks) (y ∷ prices) u h = omega (arith, ints)
price-change zero (false ∷ marks) (y ∷ prices) u h = omega (arith, ints)
price-change (suc i) [] (y ∷ prices) u h = omega (arith, ints)
price-change (suc i) (true ∷ marks) (y ∷ prices) u h =
    omega (arith, ints, price-change i marks prices u (omega arith))
price-change (suc i) (false ∷ marks) (y ∷ prices) u h = price-change i marks prices u (omega arith)

pub sum-change : (i : ℕ) (prices : List ℤ) (u : ℤ) → i < length prices →
    int_sum (set prices i u) ≡ int_sum (set prices i (pos 0)) +ℤ u
sum-change i [] u h = absurd (omega arith)
sum-change zero (y ∷ prices) u h = omega (arith, ints)
sum-change (suc i) (y ∷ prices) u h =
    omega (arith, ints, sum-change i prices u (omega arith))

pub set-back : (i : ℕ) (prices : List ℤ) → i < length prices →
    set prices i (get_or prices i (pos 0)) ≡ prices
set-back i [] h = absurd (omega arith)
set-back zero (y ∷ prices) h = refl
set-back (suc i) (y ∷ prices) h = ap (λ l. y ∷ l) (set-back i prices (omega arith))

-- the slacks of the sets that hold its order change by as much
pub slack-change : (charge : ℕ → ℕ) (group rest : List Order) (i : ℕ) (prices : List ℤ) →
    i < length prices → (u : ℤ) (marks : List Bool) →
    slack charge group rest (set prices i u) marks
    ≡ slack charge group rest (set prices i (pos 0)) marks -ℤ cond (in_set i marks) u (pos 0)
slack-change charge group rest i prices long u marks =
    omega (arith, ints, price-change i marks prices u long)
