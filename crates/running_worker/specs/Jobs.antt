-- What a worker of a round begins with.
use Rattle.std.specs.Prelude.{◌≡◌, ◌<◌, ◌≤◌, ◌+◌, [], length}
use Rattle.std.specs.List.{AllByRecursion}
use Rattle.order_symmetry.specs.Ranked.{RankedOrders}
use Rattle.shared_words.specs.Best.{IsLossSeatOf}
use Rattle.shared_words.specs.Meter.{IsTicketSeatOf}
use Rattle.steal_deques.specs.Deque.{DequeThief}
use Rattle.running_worker.specs.declared.job.Job.{Job}
use Rattle.running_worker.specs.declared.round.Round.{Round}
use Rattle.running_worker.specs.Running.{Running}

-- a thief of some deque for paths in the tree of these orders, which has stolen nothing yet
pub record IsNewThief (ranked : RankedOrders) (thief : DequeThief) : Type 0 where
  pub orders : thief.ranked ≡ ranked
  pub stolen : thief.stolen ≡ []

-- A job of a round over these ranked orders: its seats are of the round's words, it has a thief for
-- each other worker, it has done nothing yet, and it may draw once past the budget.
pub record IsJobOf (ranked : RankedOrders) (round : Round) (job : Job) : Type 0 where
  pub among : job.number < round.workers
  pub few : round.workers ≤ 64
  pub loss_seat : IsLossSeatOf round.best job.loss_seat
  pub ticket_seat : IsTicketSeatOf round.meter job.ticket_seat
  pub own : job.own.ranked ≡ ranked
  pub others : length job.thieves.items + 1 ≡ round.workers
  pub thieves : AllByRecursion (IsNewThief ranked) job.thieves.items
  pub seen : job.loss_seat.seen ≤ round.loss
  pub published : job.loss_seat.mine ≡ []
  pub tickets : job.ticket_seat.tickets ≡ []
  pub draws : 1 ≤ job.ticket_seat.spends
  pub popped : job.own.popped ≡ []

-- the hand of a job, before its worker's first step
abbrev pub hand_of : RankedOrders → Round → Job → Running
hand_of ranked round job = record {
  ranked = ranked;
  number = job.number;
  workers = round.workers;
  best = round.best;
  meter = round.meter;
  loss_seat = job.loss_seat;
  ticket_seat = job.ticket_seat;
  own = job.own;
  thieves = job.thieves.items;
}
