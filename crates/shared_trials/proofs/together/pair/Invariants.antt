use Rattle.std.proofs.Common.{◌≡◌, ◌≤◌, ◌+◌, All, IsNone, vec_len}
use Rattle.shared_trials.specs.Trials.{AreSeatsOf}
use Rattle.shared_trials.proofs.together.pair.Given as goal

abbrev pub invariant-loop-seats : goal.invariant-loop-seats
invariant-loop-seats g l = record {
  count : vec_len l.workers + vec_len l.seats ≡ vec_len l.fn.seats;
  seats : All (λ s. AreSeatsOf l.best l.meter s.loss s.ticket
      × (IsNone s.past → 1 ≤ s.ticket.spends)) l.seats.items;
  workers : All (λ worker. AreSeatsOf l.best l.meter worker.seats.loss worker.seats.ticket
      × (IsNone worker.seats.past → 1 ≤ worker.seats.ticket.spends)) l.workers.items;
}

abbrev pub decreases-loop-seats : goal.decreases-loop-seats
decreases-loop-seats g l = vec_len l.seats
