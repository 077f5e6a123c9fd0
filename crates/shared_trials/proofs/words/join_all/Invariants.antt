use Rattle.std.proofs.Common.{◌≡◌, ◌+◌, All, vec_len}
use Rattle.shared_words.specs.Best.{IsLossSeatOf}
use Rattle.shared_words.specs.Meter.{IsTicketSeatOf}
use Rattle.shared_trials.specs.Trials.{AreSeatsOf}
use Rattle.shared_trials.proofs.words.join_all.Given as goal

abbrev pub invariant-loop-seats : goal.invariant-loop-seats
invariant-loop-seats l = record {
  loss : IsLossSeatOf l.best l.loss;
  ticket : IsTicketSeatOf l.meter l.ticket;
  losses : l.loss.shares + vec_len l.all ≡ l.fn.loss.shares + vec_len l.fn.all;
  tickets : l.ticket.shares + vec_len l.all ≡ l.fn.ticket.shares + vec_len l.fn.all;
  each : All (λ seats. AreSeatsOf l.best l.meter seats.loss seats.ticket) l.all.items;
}

abbrev pub decreases-loop-seats : goal.decreases-loop-seats
decreases-loop-seats l = vec_len l.all
