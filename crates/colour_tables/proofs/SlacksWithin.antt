-- How large least slacks get: each is the slack of a set, which is what one charge and the prices
-- of its orders come to.
use Rattle.std.proofs.Common.{ℕ, ◌+◌, ◌*◌, ◌≤◌, ◌≡◌, Bool, List, [], ◌∷◌, ◌++◌, length}
use Rattle.std.proofs.Common.{map, ℤ, pos, neg_ℤ, ◌-ℤ◌, ◌≤ℤ◌, Some, IfSome}
use Rattle.std.proofs.Common.{refl, sym, ap, ◌∙◌, subst, arith, inl, inr, set, length-set}
use Rattle.std.proofs.lemmas.Int.{ints}
use Rattle.std.proofs.lemmas.List.{get_or_past}
use Rattle.std.proofs.lemmas.Bool.{cases_lt}
use Rattle.list_laws.specs.Sets.{chosen, int_sum, holds, different}
use Rattle.list_laws.proofs.Among.{Among, Among-unmap}
use Rattle.mill_model.specs.Slab.{Mill, load}
use Rattle.mill_model.specs.Bounds.{least_of, slacks}
use Rattle.mill_model.specs.Charges.{ChargeTable, charge_of}
use Rattle.mill_model.specs.Prices.{least, least_slack, legal_sets, slack}
use Rattle.mill_model.specs.declared.charges.TheConstants.{MAX_CHARGE}
use Rattle.mill_model.specs.declared.order.Order.{Order}
use Rattle.mill_model.specs.declared.order.TheConstants.{MAX_ORDERS}
use Rattle.mill_model.specs.declared.prices.TheConstants.{MAX_PRICE}
use Rattle.mill_laws.proofs.Least.{least-in}
use Rattle.mill_laws.proofs.Slacks.{from-slacks}
use Rattle.set_minima.specs.Cells.{IsSmall}
use Rattle.set_minima.specs.Joins.{IsSlab}
use Rattle.set_minima.proofs.Gains.{gain-within}
use Rattle.colour_tables.specs.Entries.{AreSmallAll}
use Rattle.colour_tables.specs.Leasts.{table_slack_limit}
use Rattle.colour_tables.proofs.PricesSet.{small-set}
use Rattle.colour_tables.specs.Owned.{IsOwn}
use Rattle.colour_tables.specs.PricedOrders.{PricedOrders, IsKnown, StandsFor, colour_of}
use Rattle.colour_tables.specs.declared.slab.Own.{Own}
use Rattle.colour_tables.specs.declared.slab.Own.TheVariants.{Bare, Free, One, Two, Full}
use Rattle.colour_tables.specs.declared.slab.Slab.{Slab}

-- each charge is small, also past the last one
charge-within : (table : ChargeTable) (l : ℕ) → charge_of table l ≤ MAX_CHARGE
charge-within table l = elim (cases_lt l (length table.list)) [
  | inl b ↦ table.limit l 0 b
  | inr b ↦ rw (get_or_past table.list l 0 b) (omega arith)
]

module _ (table : ChargeTable) (rest : List Order) (prices : List ℤ)
    (few : length prices ≤ MAX_ORDERS) (priced : AreSmallAll prices) where
  pub slack-within : (group : List Order) (marks : List Bool) →
      IsSmall table_slack_limit (slack (charge_of table) group rest prices marks)
  slack-within group marks =
      let base : ℕ = load (group ++ chosen marks rest) in
      let g = gain-within MAX_PRICE MAX_CHARGE (λ l. charge_of table base) 0 rest prices marks
      priced (λ l. charge-within table base) in
      turned (length prices) (int_sum (chosen marks prices)) (pos (60 * charge_of table base)) few
      g.0 g.1
    where
      turned : (n : ℕ) (s c : ℤ) → n ≤ MAX_ORDERS →
          neg_ℤ (pos (n * MAX_PRICE + 60 * MAX_CHARGE)) ≤ℤ (s -ℤ c) →
          (s -ℤ c) ≤ℤ pos (n * MAX_PRICE + 60 * MAX_CHARGE) → IsSmall table_slack_limit (c -ℤ s)
      turned n s c few low high = (omega (arith, ints), omega (arith, ints))

  -- over all legal sets, and over those that pass a test
  pub least_slack-within : (mill : Mill) (group : List Order) →
      IsSmall table_slack_limit (least_slack mill (charge_of table) group rest prices)
  least_slack-within mill group =
      elim (least-in (slack (charge_of table) group rest prices [])
      (map (slack (charge_of table) group rest prices) (legal_sets mill group rest))) [
        | inl e ↦ subst (IsSmall table_slack_limit) (sym e) (slack-within group [])
        | inr i ↦ (let r = Among-unmap (slack (charge_of table) group rest prices)
            (least_slack mill (charge_of table) group rest prices) (legal_sets mill group rest) i in
            subst (IsSmall table_slack_limit) (sym r.2) (slack-within group r.0))
      ]

  pub least_of-within : (mill : Mill) (group : List Order) (test : List Bool → Bool) →
      IfSome (least_of (slacks mill (charge_of table) group rest prices test))
      (IsSmall table_slack_limit)
  least_of-within mill group test =
      within (slacks mill (charge_of table) group rest prices test)
      (λ x i. let r = from-slacks mill (charge_of table) group rest prices test x i in
      subst (IsSmall table_slack_limit) (sym r.3) (slack-within group r.0))
    where
      within : (xs : List ℤ) → ((x : ℤ) → Among x xs → IsSmall table_slack_limit x) →
          IfSome (least_of xs) (IsSmall table_slack_limit)
      within [] h = tt
      within (x ∷ xs) h = elim (least-in x xs) [
        | inl e ↦ subst (IsSmall table_slack_limit) (sym e) (h x (inl refl))
        | inr i ↦ h (least x xs) (inr i)
      ]

-- where one price is 0 and the least slack is known
module _ (table : ChargeTable) (rest : List Order) (prices : List ℤ)
    (few : length prices ≤ MAX_ORDERS) (priced : AreSmallAll prices) (j : ℕ) (mill : Mill)
    (group : List Order) (test : List Bool → Bool) (x : ℤ) where
  pub small-some :
      least_of (slacks mill (charge_of table) group rest (set prices j (pos 0)) test) ≡ Some x →
      IsSmall table_slack_limit x
  small-some e =
      let n : length (set prices j (pos 0)) ≤ MAX_ORDERS =
      subst (λ n. n ≤ MAX_ORDERS) (sym (length-set prices j (pos 0))) few in
      subst (λ found. IfSome found (IsSmall table_slack_limit)) e
      (least_of-within table rest (set prices j (pos 0)) n
      (small-set prices j (pos 0) priced (omega (arith, ints), omega (arith, ints))) mill group
      test)

  pub small-from :
      least_of (slacks mill (charge_of table) group rest (set prices j (pos 0)) test)
      ≡ Some (x -ℤ pos 0) → IsSmall table_slack_limit x
  small-from e = small-some (e ∙ ap Some (plain x))
    where
      plain : (x : ℤ) → x -ℤ pos 0 ≡ x
      plain x = omega (arith, ints)

-- one order with the whole load, and one with none for each further colour
abbrev pub stand-in : ℕ → List ℕ → List Order
stand-in base [] = []
stand-in base (x ∷ own) = record { weight = base; colour = x } ∷ stand-in 0 own

-- some orders make each load with some colours
pub stands-in : (base : ℕ) (own : List ℕ) → 1 ≤ different own → IsSlab (stand-in base own) base own
stands-in base [] h = absurd (omega arith)
stands-in base (x ∷ own) h = record {
  weighs = let z : load (stand-in 0 own) ≡ 0 = weightless own in omega arith;
  same = λ y. coloured base (x ∷ own) y;
}
  where
    weightless : (own : List ℕ) → load (stand-in 0 own) ≡ 0
    weightless [] = refl
    weightless (x ∷ own) = rw (weightless own) refl

    coloured : (base : ℕ) (own : List ℕ) (y : ℕ) →
        holds y own ≡ holds y (map (λ order. order.colour) (stand-in base own))
    coloured base [] y = refl
    coloured base (x ∷ own) y = rw (coloured 0 own y) refl

-- so some group stands for each slab that is known
pub known-stands : (orders : PricedOrders) (slab : Slab) (known : IsKnown orders slab) →
    StandsFor orders (stand-in slab.load known.own) slab
known-stands orders slab known = record {
  own = known.own;
  apart = known.apart;
  of = stands-in slab.load known.own (some known.own slab.own known.is);
  is = known.is;
}
  where
    some : (own : List ℕ) (known : Own) → IsOwn orders.rest (colour_of orders) own known →
        1 ≤ different own
    some own Bare h = rw h.1 (omega arith)
    some own (Free d) h = rw h (omega arith)
    some own (One d) h = omega (arith, h.0)
    some own (Two d e) h = omega (arith, h.0)
    some own Full h = omega (arith, h.0)
