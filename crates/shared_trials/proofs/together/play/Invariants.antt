use Rattle.std.proofs.Common.{◌≤◌, IsNone}
use Rattle.shared_trials.specs.Trials.{AreSeatsOf}
use Rattle.shared_trials.proofs.together.play.Given as goal

abbrev pub invariant-loop-round : goal.invariant-loop-round
invariant-loop-round g l = record {
  seats : AreSeatsOf l.best l.meter l.worker.seats.loss l.worker.seats.ticket;
  spend : IsNone l.worker.seats.past → 1 ≤ l.worker.seats.ticket.spends;
}
