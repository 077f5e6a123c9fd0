-- Laws of plans: their canonical form, the same plan in rank, and each order on a slab of its own.
use Rattle.std.specs.Prelude.{ℕ, ◌≡◌, ◌≤◌, ◌↔◌, true, List, length, All}
use Rattle.list_laws.specs.Sets.{below}
use Rattle.mill_model.specs.Slab.{Mill}
use Rattle.mill_model.specs.Plan.{numbers_each, loss, IsLegalPlan}
use Rattle.mill_model.specs.Rank.{ranked_orders, plan_in_rank}
use Rattle.mill_model.specs.Tree.{canonical}
use Rattle.mill_model.specs.declared.order.Order.{Order}

-- each order fits a slab alone
pub record EachFits (mill : Mill) (orders : List Order) : Type 0 where
  pub some_colour : 1 ≤ mill.most_colours
  pub not_too_heavy : All (λ order. order.weight ≤ mill.largest) orders

-- The canonical form of a legal plan is a legal plan,
abbrev pub CanonicalFormIsLegal : Type 0
CanonicalFormIsLegal =
    (mill : Mill) (orders : List Order) (plan : List ℕ) →
    IsLegalPlan mill orders plan → IsLegalPlan mill orders (canonical plan)

-- loses what the plan loses,
abbrev pub CanonicalFormLosesTheSame : Type 0
CanonicalFormLosesTheSame =
    (mill : Mill) (charge : ℕ → ℕ) (orders : List Order) (plan : List ℕ) →
    charge 0 ≡ 0 → IsLegalPlan mill orders plan →
    loss charge (canonical plan) orders ≡ loss charge plan orders

-- and is its own canonical form: its slabs are numbered by first appearance.
abbrev pub CanonicalFormIsItsOwn : Type 0
CanonicalFormIsItsOwn = (plan : List ℕ) → canonical (canonical plan) ≡ canonical plan

-- A plan of an instance is legal exactly where the same plan of its ranked orders is,
abbrev pub PlanInRankIsLegal : Type 0
PlanInRankIsLegal =
    (mill : Mill) (orders : List Order) (plan : List ℕ) → numbers_each plan orders ≡ true →
    IsLegalPlan mill orders plan
    ↔ IsLegalPlan mill (ranked_orders orders) (plan_in_rank orders plan)

-- and loses the same.
abbrev pub PlanInRankLosesTheSame : Type 0
PlanInRankLosesTheSame =
    (charge : ℕ → ℕ) (orders : List Order) (plan : List ℕ) → numbers_each plan orders ≡ true →
    loss charge (plan_in_rank orders plan) (ranked_orders orders) ≡ loss charge plan orders

-- The plan that puts each order on a slab of its own is legal where each order fits a slab alone.
abbrev pub EachAloneIsLegal : Type 0
EachAloneIsLegal =
    (mill : Mill) (orders : List Order) →
    EachFits mill orders → IsLegalPlan mill orders (below (length orders))
