-- A round of new workers: what they begin with, what they end with, and what a run is then.
use Rattle.std.specs.Prelude.{◌≡◌, ◌<◌, ◌+◌, ◌-◌, ◌^◌, ℕ, List, [], ◌∷◌, ◌++◌, All, flat_map}
use Rattle.std.specs.Prelude.{length, map, min}
use Rattle.list_laws.specs.Sets.{times, same_list}
use Rattle.mill_model.specs.declared.plan.Start.{Start}
use Rattle.order_symmetry.specs.Ranked.{RankedOrders}
use Rattle.refute_log.specs.Pieces.{Pieced}
use Rattle.refute_log.specs.declared.piece.Run.{Run}
use Rattle.search_step.specs.Leaving.{better_of, paths_left}
use Rattle.search_step.specs.Promise.{records_of}
use Rattle.search_step.specs.Resumable.{start_of}
use Rattle.search_step.specs.declared.worker.WorkerEnd.{WorkerEnd}
use Rattle.steal_deques.specs.Deque.{DequeOwner}
use Rattle.running_worker.specs.Jobs.{IsJobOf}
use Rattle.running_worker.specs.declared.job.Job.{Job}
use Rattle.running_worker.specs.declared.job.JobEnd.{JobEnd}
use Rattle.running_worker.specs.declared.round.Round.{Round}
use Rattle.steal_workers.specs.Deques.{AllThieves, AreOfAll, IsLent, all_popped, all_pushed}
use Rattle.steal_workers.specs.Deques.{all_stolen}
use Rattle.steal_workers.specs.Seats.{AreSeatsOf}
use Rattle.steal_workers.specs.Words.{IsClosed}
use Rattle.steal_workers.specs.declared.seats.Seats.{Seats}

-- the seats of a job, and of its end
abbrev pub job_seats : Job → Seats
job_seats job = record { loss = job.loss_seat; ticket = job.ticket_seat }

abbrev pub end_seats : JobEnd → Seats
end_seats end = record { loss = end.loss_seat; ticket = end.ticket_seat }

-- the owners of jobs and of their ends, their thieves, and what the ends leave
abbrev pub job_owners : List Job → List DequeOwner
job_owners = map (λ job. job.own)

abbrev pub job_thieves : List Job → AllThieves
job_thieves = map (λ job. job.thieves.items)

abbrev pub end_owners : List JobEnd → List DequeOwner
end_owners = map (λ end. end.own)

abbrev pub end_thieves : List JobEnd → AllThieves
end_thieves = map (λ end. end.thieves.items)

abbrev pub work_left : List JobEnd → List WorkerEnd
work_left = map (λ end. end.left)

-- the first deque has got some paths
abbrev pub with_first : List (List ℕ) → List DequeOwner → List DequeOwner
with_first paths [] = []
with_first paths (own ∷ owns) = record own { pushed = own.pushed ++ paths } ∷ owns

-- the best of a plan and those that workers leave
abbrev pub best_left : Start → List WorkerEnd → Start
best_left start [] = start
best_left start (end ∷ ends) = best_left (better_of start end.best) ends

-- A round begins with so many jobs, whose owners have some paths together. Each worker has a thief
-- of every deque but its own.
pub record Begins (ranked : RankedOrders) (workers : ℕ) (paths : List (List ℕ)) (round : Round)
    (jobs : List Job) : Type 0 where
  pub count : length jobs ≡ workers
  pub each : All (IsJobOf ranked round) jobs
  pub seats : All (AreSeatsOf round.best round.meter) (map job_seats jobs)
  pub lent : All (IsLent workers) (job_owners jobs)
  pub thieves : AreOfAll (job_owners jobs) (job_thieves jobs)
  pub pushed : (x : List ℕ) → all_pushed x (job_owners jobs) ≡ times same_list x paths

-- its jobs have ended, with the seats and ends that they began with
pub record MayEnd (round : Round) (ends : List JobEnd) : Type 0 where
  pub some : 0 < length ends
  pub seats : All (AreSeatsOf round.best round.meter) (map end_seats ends)
  pub loss_shares : round.best.shares ≡ length ends
  pub ticket_shares : round.meter.shares ≡ length ends
  pub lent : All (IsLent (length ends)) (end_owners ends)
  pub thieves : AreOfAll (end_owners ends) (end_thieves ends)

-- A run has the given pieces and those of the jobs' ends, the paths that these left and those of
-- the deques, the best of the given plan and theirs, and the tickets of the round beside those
-- drawn before.
pub record HasEnded (round : Round) (pieces : List Pieced) (start : Start) (drawn : ℕ)
    (ends : List JobEnd) (run : Run) : Type 0 where
  pub records :
      records_of run
      ≡ map (λ piece. piece.entries) pieces ++ map (λ end. end.piece.entries) (work_left ends)
  pub in_deques : List (List ℕ)
  pub unclosed : run.unclosed.items ≡ flat_map paths_left (work_left ends) ++ in_deques
  pub paths : (x : List ℕ) →
      all_pushed x (end_owners ends)
      ≡ times same_list x in_deques + all_popped x (end_owners ends)
      + all_stolen x (end_thieves ends)
  pub best : start_of run ≡ best_left start (work_left ends)
  pub tickets : ℕ
  pub closed : IsClosed round.best.start round.meter.nodes (map end_seats ends) tickets
  pub drawn_is : run.drawn ≡ min (drawn + tickets) (2 ^ 64 - 1)
