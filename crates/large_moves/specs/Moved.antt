-- What moves and a walk promise.
use Rattle.std.specs.Prelude.{ℕ, ◌<◌, ◌≤◌, ◌-◌, ◌≡◌, true, List, length}
use Rattle.mill_model.specs.Pairs.{pairs_of, first_closed, pair_closed, sure_tries}
use Rattle.mill_model.specs.Plan.{IsPlanWithLoss}
use Rattle.mill_model.specs.Slab.{Mill}
use Rattle.mill_model.specs.declared.order.Order.{Order}
use Rattle.mill_model.specs.declared.plan.Start.{Start}
use Rattle.large_moves.specs.declared.closed.Closed.{Closed}
use Rattle.large_moves.specs.declared.closed.Closed.TheVariants.{Yes, Spent}

-- a legal plan with its loss, which is no more than that of the plan before
pub record IsNoWorse (mill : Mill) (charge : ℕ → ℕ) (orders : List Order) (before after : Start)
    : Type 0 where
  pub start : IsPlanWithLoss mill charge orders after.plan after.loss
  pub no_more : after.loss ≤ before.loss

-- Each unit of gain may have taken a try of each pair; as many of the first pairs as moves are then
-- left are closed. All pairs are closed, or there are more of them than moves were left.
pub record HasClosed (mill : Mill) (charge : ℕ → ℕ) (orders : List Order) (moves : ℕ)
    (before after : Start) (closed : Closed) : Type 0 where
  pub first : first_closed mill charge orders after.plan
      (sure_tries moves (before.loss - after.loss) (length orders)) ≡ true
  pub all : closed ≡ Yes → pair_closed mill charge orders after.plan ≡ true
  pub spent : closed ≡ Spent →
      sure_tries moves (before.loss - after.loss) (length orders) < length (pairs_of after.plan)
