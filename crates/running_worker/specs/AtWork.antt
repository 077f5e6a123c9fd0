-- What a worker and its hand keep while the worker runs.
use Rattle.std.specs.Prelude.{ℕ, ◌≡◌, ◌≢◌, ◌≤◌}
use Rattle.search_step.specs.Serving.{Serves}
use Rattle.search_step.specs.Steps.{MayStep}
use Rattle.search_step.specs.Worker.{IsWorker, WorkerParts}
use Rattle.search_step.specs.declared.parts.Phase.TheVariants.{Publishing}
use Rattle.running_worker.specs.Running.{Running, running_may, running_serves}
use Rattle.running_worker.specs.Worked.{HasDone, LosesAtMost, SameLossSeat, SameOwner}
use Rattle.running_worker.specs.Worked.{SameThieves, SameTicketSeat}

-- the same hand, whatever was done at its seats and ends since
pub record SameHand (before after : Running) : Type 0 where
  pub number : after.number ≡ before.number
  pub meter : after.meter ≡ before.meter
  pub loss_seat : SameLossSeat before.loss_seat after.loss_seat
  pub ticket_seat : SameTicketSeat before.ticket_seat after.ticket_seat
  pub own : SameOwner before.own after.own
  pub thieves : SameThieves before.thieves after.thieves

-- a worker may make a step with this hand
pub record MayGoOn (w : WorkerParts) (h : Running) : Type 0 where
  pub serves : Serves (running_serves h) w.ranked w.workers w.number
  pub may : MayStep w.parts.phase (running_may h)

-- What a worker has done since its hand was a first one. It knows no less than its seat saw, unless
-- it is to publish: then the plan that it keeps loses no more than it knows.
pub record IsAtWork (start : ℕ) (first : Running) (w : WorkerParts) (h : Running) : Type 0 where
  pub worker : IsWorker w
  pub same : SameHand first h
  pub has_done :
      HasDone w.ranked w.charges start first.meter.nodes first.own.pushed w.parts h.own h.thieves
      h.loss_seat h.ticket_seat
  pub knows : w.parts.phase ≢ Publishing → h.loss_seat.seen ≤ w.parts.known
  pub publishes : w.parts.phase ≡ Publishing → LosesAtMost w.parts.best w.parts.known

-- a worker at work is still at work
abbrev pub StaysAtWork : WorkerParts → Running → WorkerParts → Running → Type 0
StaysAtWork w h w' h' =
    (start : ℕ) (first : Running) → IsAtWork start first w h → IsAtWork start first w' h'
