-- What a worker and its hand keep from step to step.
use Rattle.std.specs.Prelude.{◌≡◌, true}
use Rattle.order_symmetry.specs.Ranked.{RankedOrders}
use Rattle.search_step.specs.Serving.{Serves, Serving}
use Rattle.search_step.specs.Steps.{MayStep}
use Rattle.search_step.specs.Worker.{WorkerParts}

-- a hand serves a worker of these orders, which may go on
pub record GoesOn (orders : RankedOrders) (w : WorkerParts) (hand : Serving) : Type 0 where
  pub ranked : w.ranked ≡ orders
  pub serves : Serves hand w.ranked w.workers w.number
  pub may : MayStep w.parts.phase true
