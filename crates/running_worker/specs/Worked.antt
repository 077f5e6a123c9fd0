-- What a job of a round leaves at its end.
use Rattle.std.specs.Prelude.{ℕ, ◌≡◌, ◌≤◌, ◌+◌, true, nat_lt, List, [], ◌∷◌}
use Rattle.std.specs.Prelude.{length, All, Some, Option, count_by}
use Rattle.std.specs.List.{AllByRecursion}
use Rattle.list_laws.specs.Sets.{times, same_list}
use Rattle.mill_model.specs.Charges.{ChargeTable}
use Rattle.mill_model.specs.declared.plan.Start.{Start}
use Rattle.order_symmetry.specs.Ranked.{RankedOrders}
use Rattle.refute_log.specs.Fits.{fits}
use Rattle.search_step.specs.Honest.{IsHonest}
use Rattle.search_step.specs.Parts.{Parts}
use Rattle.search_step.specs.Steps.{task_at}
use Rattle.search_step.specs.declared.worker.WorkerEnd.{WorkerEnd}
use Rattle.core_machine.specs.Counts.{own_count, split_count, sum_of, tickets_of}
use Rattle.core_machine.specs.Ends.{is_calm}
use Rattle.shared_words.specs.Best.{LossSeat}
use Rattle.shared_words.specs.Meter.{TicketSeat}
use Rattle.steal_deques.specs.Deque.{DequeOwner, DequeThief}
use Rattle.running_worker.specs.declared.job.Job.{Job}
use Rattle.running_worker.specs.declared.job.JobEnd.{JobEnd}
use Rattle.running_worker.specs.declared.round.Round.{Round}

-- the same seat, whatever it saw and published since
pub record SameLossSeat (before after : LossSeat) : Type 0 where
  pub table : after.table ≡ before.table
  pub start : after.start ≡ before.start
  pub shares : after.shares ≡ before.shares

-- the same seat, whatever it drew and heard since
pub record SameTicketSeat (before after : TicketSeat) : Type 0 where
  pub table : after.table ≡ before.table
  pub nodes : after.nodes ≡ before.nodes
  pub shares : after.shares ≡ before.shares

-- the same end of a deque, whatever was pushed and popped at it since
pub record SameOwner (before after : DequeOwner) : Type 0 where
  pub deque : after.deque ≡ before.deque
  pub ranked : after.ranked ≡ before.ranked
  pub all : after.all ≡ before.all
  pub shares : after.shares ≡ before.shares
  pub stolen : after.stolen ≡ before.stolen

-- the same thief, whatever it stole since
pub record SameThief (before after : DequeThief) : Type 0 where
  pub deque : after.deque ≡ before.deque
  pub ranked : after.ranked ≡ before.ranked

-- the same thieves, in their order
abbrev pub SameThieves : List DequeThief → List DequeThief → Type 0
SameThieves [] [] = Unit {0}
SameThieves [] (u ∷ us) = ⊥
SameThieves (t ∷ ts) [] = ⊥
SameThieves (t ∷ ts) (u ∷ us) = SameThief t u × SameThieves ts us

-- the seats and ends that the job began with
pub record KeepsEnds (job : Job) (done : JobEnd) : Type 0 where
  pub number : done.number ≡ job.number
  pub loss_seat : SameLossSeat job.loss_seat done.loss_seat
  pub ticket_seat : SameTicketSeat job.ticket_seat done.ticket_seat
  pub own : SameOwner job.own done.own
  pub thieves : SameThieves job.thieves.items done.thieves.items

-- the parts of a worker that are left
pub record AreLeft (w : Parts) (left : WorkerEnd) : Type 0 where
  pub piece : left.piece.entries ≡ w.piece
  pub held : left.held ≡ w.held
  pub waiting : left.waiting.items ≡ w.waiting
  pub best : left.best ≡ w.best

-- a kept plan loses no more than a loss
pub record LosesAtMost (best : Option Start) (loss : ℕ) : Type 0 where
  pub kept : Start
  pub is : best ≡ Some kept
  pub at_most : kept.loss ≤ loss

-- how often a path stands among those that some thieves stole
abbrev pub stolen_count : List ℕ → List DequeThief → ℕ
stolen_count path = sum_of (λ thief. times same_list path thief.stolen)

-- What a worker has, with what was done at its seats and ends since it began. Each path that came
-- to it or that it split off another is still its own or was pushed. Each record and each path in
-- work has a ticket of its own. Its records, notes and plan are honest for the loss at the start.
-- It published no loss that its plan doesn't reach.
pub record HasDone (ranked : RankedOrders) (charges : ChargeTable) (start budget : ℕ)
    (given : List (List ℕ)) (w : Parts) (own : DequeOwner) (thieves : List DequeThief)
    (losses : LossSeat) (tickets : TicketSeat) : Type 0 where
  pub paths : (x : List ℕ) →
      own_count x w + times same_list x own.pushed
      ≡ times same_list x given + split_count (task_at ranked charges) x w
      + times same_list x own.popped + stolen_count x thieves
  pub counted : tickets_of w ≡ count_by (λ ticket. nat_lt ticket budget) tickets.tickets
  pub honest : IsHonest ranked charges start w
  pub fit : AllByRecursion (λ entry. fits (length ranked.placed) entry ≡ true) w.piece
  pub published : All (LosesAtMost w.best) losses.mine

-- A job has worked to its end: it gives back its seats and ends, and leaves a worker that has
-- neither a path in work nor a plan to publish, and knows no less than what its seat saw.
pub record HasWorked (ranked : RankedOrders) (charges : ChargeTable) (round : Round) (job : Job)
    (done : JobEnd) : Type 0 where
  pub ends : KeepsEnds job done
  pub parts : Parts
  pub left : AreLeft parts done.left
  pub has_done :
      HasDone ranked charges round.loss round.meter.nodes job.own.pushed parts done.own
      done.thieves.items done.loss_seat done.ticket_seat
  pub calm : is_calm parts.phase ≡ true
  pub known : done.loss_seat.seen ≤ parts.known
