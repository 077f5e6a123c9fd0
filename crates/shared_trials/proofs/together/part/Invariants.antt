use Rattle.std.proofs.Common.{◌≡◌, ◌+◌, All, vec_len}
use Rattle.shared_trials.specs.Trials.{AreSeatsOf}
use Rattle.shared_trials.proofs.together.part.Given as goal

abbrev pub invariant-loop-worker : goal.invariant-loop-worker
invariant-loop-worker g l = record {
  count : vec_len l.seats + vec_len l.workers ≡ vec_len l.fn.workers;
  workers : All (λ worker. AreSeatsOf l.best l.meter worker.seats.loss worker.seats.ticket)
      l.workers.items;
  seats : All (λ s. AreSeatsOf l.best l.meter s.loss s.ticket) l.seats.items;
}

abbrev pub decreases-loop-worker : goal.decreases-loop-worker
decreases-loop-worker g l = vec_len l.workers
