-- What valid prices are worth is a bound on what plans lose: weak duality. The orders of a slab are
-- its group on the path and a set T of the later orders. Slab by slab, 60 times the charge is at
-- least the group's least slack and the prices of T; on a new slab, whose group is empty, it is at
-- least the prices of T, since the prices are valid. The sums of these over all slabs are 60 times
-- the loss and the worth.
use Rattle.std.proofs.Common.{ℕ, zero, suc, ◌*◌, ◌<◌, ◌≤◌, ◌≡◌, eqb, ltb, int_le, Bool, true, List}
use Rattle.std.proofs.Common.{[], ◌++◌, map, length, ℤ, pos, ◌+ℤ◌, ◌≤ℤ◌, sym, ap}
use Rattle.std.proofs.Common.{◌∙◌, arith, inl, inr}
use Rattle.std.proofs.lemmas.Int.{ints}
use Rattle.std.proofs.lemmas.List.{length-map}
use Rattle.std.specs.List.{list_all}
use Rattle.list_laws.specs.Sets.{chosen, sets, int_sum, int_total, total}
use Rattle.mill_model.specs.Slab.{Mill, load, legal}
use Rattle.mill_model.specs.Plan.{slab, loss}
use Rattle.mill_model.specs.Tree.{later_orders, next_new}
use Rattle.mill_model.specs.Prices.{slack, legal_sets, valid, least_slack, worth}
use Rattle.mill_model.specs.declared.order.Order.{Order}
use Rattle.list_laws.proofs.Among.{Among, all-among, among-sets, Among-map, Among-filter}
use Rattle.mill_laws.proofs.Least.{least-among}
use Rattle.list_laws.proofs.Sums.{total-cong, sum-parts}
use Rattle.list_laws.proofs.Tests.{last-or-below}
use Rattle.mill_laws.proofs.Groups.{slab-new}
use Rattle.mill_model.proofs.Slabs.{slab-append}

module _ (mill : Mill) (charge : ℕ → ℕ) (group rest : List Order) (prices : List ℤ)
    (set : List Bool) where
  pub among-legal : length set ≡ length rest → legal mill (group ++ chosen set rest) ≡ true →
      Among set (legal_sets mill group rest)
  among-legal e h =
      Among-filter (λ set. legal mill (group ++ chosen set rest)) set (sets (length rest)) h
      (rw (← e) (among-sets set))

  -- the least slack is at most the slack of each legal set
  pub least_slack-le : length set ≡ length rest → legal mill (group ++ chosen set rest) ≡ true →
      least_slack mill charge group rest prices ≤ℤ slack charge group rest prices set
  least_slack-le e h =
      least-among (slack charge group rest prices []) (slack charge group rest prices set)
      (map (slack charge group rest prices) (legal_sets mill group rest))
      (Among-map (slack charge group rest prices) set (legal_sets mill group rest)
      (among-legal e h))

-- Where prices are valid, no slack of a new slab is below zero.
pub valid-le : (mill : Mill) (charge : ℕ → ℕ) (rest : List Order) (prices : List ℤ)
    (set : List Bool) → valid mill charge rest prices ≡ true → length set ≡ length rest →
    legal mill (chosen set rest) ≡ true → pos 0 ≤ℤ slack charge [] rest prices set
valid-le mill charge rest prices set v e h =
    not-less (slack charge [] rest prices set)
    (all-among (λ set. int_le (pos 0) (slack charge [] rest prices set)) set
    (legal_sets mill [] rest) v (among-legal mill charge [] rest prices set e h))
  where
    not-less : (x : ℤ) → int_le (pos 0) x ≡ true → pos 0 ≤ℤ x
    not-less x h = grind (arith, ints)

module _ (mill : Mill) (charge : ℕ → ℕ) (ranked : List Order) (path more : List ℕ)
    (prices : List ℤ) where
  abbrev pub rest : List Order
  rest = later_orders ranked path

  -- of slab s: its group on the path, the set of later orders that follows, the prices of the set,
  -- its charge, and the least slack of the group
  abbrev pub group : ℕ → List Order
  group s = slab s path ranked

  abbrev pub set : ℕ → List Bool
  set s = map (λ t. eqb s t) more

  abbrev pub priced : ℕ → ℤ
  priced s = int_sum (chosen (set s) prices)

  abbrev pub charged : ℕ → ℕ
  charged s = charge (load (group s ++ chosen (set s) rest))

  abbrev pub z : ℕ → ℤ
  z s = least_slack mill charge (group s) rest prices

  -- on the first n slabs, all of them groups of the path
  pub on-groups : length more ≡ length rest → (n : ℕ) →
      ((s : ℕ) → s < n → legal mill (group s ++ chosen (set s) rest) ≡ true) →
      (int_total n z +ℤ int_total n priced) ≤ℤ pos (60 * total n charged)
  on-groups e zero h = omega (arith, ints)
  on-groups e (suc n) h =
      let long : length (set n) ≡ length rest = length-map more (λ t. eqb n t) ∙ e in
      let before = on-groups e n (λ s l. h s (omega arith)) in
      let here = least_slack-le mill charge (group n) rest prices (set n) long
      (h n (omega arith)) in
      omega (arith, ints, before, here)

  -- and on the new slabs behind them
  pub on-all : length more ≡ length rest → valid mill charge rest prices ≡ true → (n : ℕ) →
      next_new path ≤ n → ((s : ℕ) → s < n → legal mill (group s ++ chosen (set s) rest) ≡ true) →
      (int_total (next_new path) z +ℤ int_total n priced) ≤ℤ pos (60 * total n charged)
  on-all e v zero m h =
      let none : next_new path ≡ 0 = omega arith in rw none (on-groups e zero h)
  on-all e v (suc n) m h = elim (last-or-below (next_new path) (suc n) (omega arith)) [
    | inl q ↦ rw q (on-groups e (suc n) h)
    | inr l ↦ omega (
      arith,
      ints,
      on-all e v n (omega arith) (λ s b. h s (omega arith)),
      new (omega arith),
    )
  ]
    where
      new : next_new path ≤ n → priced n ≤ℤ pos (60 * charged n)
      new l =
          let none : group n ≡ [] = slab-new n path ranked l in
          let fits : legal mill (chosen (set n) rest) ≡ true = rw none at (h n (omega arith)) in
          let long : length (set n) ≡ length rest = length-map more (λ t. eqb n t) ∙ e in
          rw none (omega (arith, ints, valid-le mill charge rest prices (set n) v long fits))

  -- No plan that begins with the path loses less than valid prices are worth there.
  pub weak-duality : length more ≡ length rest → length prices ≡ length rest →
      next_new path ≤ length ranked → list_all (λ t. ltb t (length ranked)) more ≡ true →
      valid mill charge rest prices ≡ true →
      ((s : ℕ) → s < length ranked → legal mill (slab s (path ++ more) ranked) ≡ true) →
      worth mill charge ranked path prices ≤ℤ pos (60 * loss charge (path ++ more) ranked)
  weak-duality e p m b v h =
      let n = length ranked in
      let slabs : (s : ℕ) → slab s (path ++ more) ranked ≡ group s ++ chosen (set s) rest =
      λ s. slab-append s path more ranked in
      let all = on-all e v n m (λ s l. rw (← slabs s) (h s l)) in
      let prices-add-up = sum-parts n more prices (e ∙ sym p) b in
      let charges-add-up : loss charge (path ++ more) ranked ≡ total n charged =
      total-cong n (λ s. charge (load (slab s (path ++ more) ranked))) charged (λ s l.
      ap (λ orders. charge (load orders)) (slabs s)) in
      omega (arith, ints, all, prices-add-up)
