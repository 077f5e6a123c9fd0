-- What it is for a plan to be legal, number by number.
use Rattle.std.proofs.Common.{ℕ, ◌≤◌, ◌≡◌, true, List, length, eqb, ltb}
use Rattle.std.proofs.Common.{eq-eqb, eqb-true}
use Rattle.std.specs.List.{list_all}
use Rattle.list_laws.specs.Sets.{holds}
use Rattle.mill_model.specs.Slab.{Mill, legal}
use Rattle.mill_model.specs.Plan.{slab, IsLegalPlan}
use Rattle.mill_model.specs.Tree.{next_new}
use Rattle.mill_model.specs.declared.order.Order.{Order}
use Rattle.list_laws.proofs.Tests.{and-left, and-right}
use Rattle.list_laws.proofs.Sums.{each_below-at, each_below-from}
use Rattle.mill_laws.proofs.Groups.{numbers-below}
use Rattle.list_laws.proofs.Different.{holds-below}

module _ (mill : Mill) (orders : List Order) (plan : List ℕ)
    (is_legal : IsLegalPlan mill orders plan) where
  pub plan-long : length plan ≡ length orders
  plan-long = eqb-true _ _ (and-left (eqb (length plan) (length orders)) _ is_legal.each)

  pub plan-range : list_all (λ s. ltb s (length orders)) plan ≡ true
  plan-range = and-right (eqb (length plan) (length orders)) _ is_legal.each

  pub plan-fits : (s : ℕ) → holds s plan ≡ true → legal mill (slab s plan orders) ≡ true
  plan-fits s h =
      each_below-at (length orders) (λ s. legal mill (slab s plan orders)) s is_legal.slabs
      (holds-below (length orders) s plan plan-range h)

pub legal-from : (mill : Mill) (orders : List Order) (plan : List ℕ) →
    length plan ≡ length orders → next_new plan ≤ length orders →
    ((s : ℕ) → legal mill (slab s plan orders) ≡ true) → IsLegalPlan mill orders plan
legal-from mill orders plan long numbers fits = record {
  each = rw (eq-eqb _ _ long) (numbers-below (length orders) plan numbers);
  slabs =
      each_below-from (length orders) (λ s. legal mill (slab s plan orders)) (λ s l. fits s);
}
