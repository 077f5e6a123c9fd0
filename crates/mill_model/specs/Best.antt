-- The best plans of some orders, for any charge of loads, and those that a search has found when
-- its budget is spent.
use Rattle.std.specs.Prelude.{ℕ, ◌≡◌, ◌<◌, ◌≤◌, List, length}
use Rattle.mill_model.specs.Slab.{Mill}
use Rattle.mill_model.specs.Instance.{Problem, mill_of}
use Rattle.mill_model.specs.Plan.{IsPlanWithLoss, NoneLosesLess}
use Rattle.mill_model.specs.Pairs.{IsStartBound}
use Rattle.mill_model.specs.Size.{enough}
use Rattle.mill_model.specs.Tree.{canonical}
use Rattle.mill_model.specs.declared.limits.Limits.{Limits}
use Rattle.mill_model.specs.declared.order.Order.{Order}
use Rattle.mill_model.specs.declared.plan.Start.{Start}

-- a legal plan of an instance, with what it loses
abbrev pub IsStartOf : Problem → (ℕ → ℕ) → Start → Type 0
IsStartOf problem charge start =
    IsPlanWithLoss (mill_of problem) charge problem.orders start.plan start.loss

-- a plan's slabs are numbered by first appearance
abbrev pub IsTidy : List ℕ → Type 0
IsTidy plan = canonical plan ≡ plan

module _ (mill : Mill) (charge : ℕ → ℕ) (orders : List Order) where
  -- a legal plan whose slabs are numbered by first appearance, with what it loses
  pub record IsTidyPlan (start : Start) : Type 0 where
    pub found : IsPlanWithLoss mill charge orders start.plan start.loss
    pub tidy : IsTidy start.plan

  -- such a plan, where no legal plan loses less
  pub record IsBest (start : Start) : Type 0 where
    pub found : IsTidyPlan start
    pub least : NoneLosesLess mill charge orders start.loss

  -- Such a plan, where a search spent its budget of nodes: it loses no more than the greatest loss
  -- of a possible start for so many moves, and the budget isn't enough for the tree of so many
  -- orders.
  pub record IsFeasible (limits : Limits) (start : Start) (spent : ℕ) : Type 0 where
    pub found : IsTidyPlan start
    pub start_bound : ℕ
    pub is_bound : IsStartBound mill charge orders limits.moves start_bound
    pub no_worse : start.loss ≤ start_bound
    pub whole_budget : spent ≡ limits.nodes
    pub small_budget : limits.nodes < enough (length orders)
