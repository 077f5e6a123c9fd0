-- Plans that lose less.
use Rattle.std.specs.Prelude.{ℕ, ◌<◌, List}
use Rattle.mill_model.specs.Plan.{IsPlanWithLoss}
use Rattle.mill_model.specs.Slab.{Mill}
use Rattle.mill_model.specs.declared.order.Order.{Order}
use Rattle.mill_model.specs.declared.plan.Start.{Start}

-- a legal plan, with its loss, which is below a bound
pub record IsBetter (mill : Mill) (charge : ℕ → ℕ) (orders : List Order) (bound : ℕ)
    (start : Start) : Type 0 where
  pub plan : IsPlanWithLoss mill charge orders start.plan start.loss
  pub less : start.loss < bound
