-- The words that the workers of a round share, at its start and at its end.
use Rattle.std.specs.Prelude.{◌≡◌, ◌≤◌, ◌⊎◌, ℕ, List, All, count_by, min, nat_lt}
use Rattle.core_machine.specs.Counts.{sum_of}
use Rattle.running_worker.specs.declared.round.Round.{Round}
use Rattle.steal_workers.specs.Seats.{IsPublished}
use Rattle.steal_workers.specs.declared.seats.Seats.{Seats}

-- words for so many workers that know a loss, with so many tickets
pub record IsOpened (workers loss nodes : ℕ) (round : Round) : Type 0 where
  pub workers_are : round.workers ≡ workers
  pub loss_is : round.loss ≡ loss
  pub start : round.best.start ≡ loss
  pub loss_shares : round.best.shares ≡ workers
  pub tickets : round.meter.nodes ≡ nodes
  pub ticket_shares : round.meter.shares ≡ workers

-- how many of a worker's numbers are below a budget
abbrev pub tickets_below : ℕ → Seats → ℕ
tickets_below nodes seats = count_by (λ ticket. nat_lt ticket nodes) seats.ticket.tickets

-- At the end there is a least loss, which the round began with or a worker published, and none saw
-- a lower one. Of the numbers drawn, as many as there are tickets are below their number.
pub record IsClosed (start nodes : ℕ) (seats : List Seats) (drawn : ℕ) : Type 0 where
  pub least : ℕ
  pub from : (least ≡ start) ⊎ IsPublished seats least
  pub seen : All (λ seats. least ≤ seats.loss.seen) seats
  pub tickets : sum_of (tickets_below nodes) seats ≡ min drawn nodes
