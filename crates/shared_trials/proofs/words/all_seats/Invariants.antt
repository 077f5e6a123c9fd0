use Rattle.std.proofs.Common.{◌≡◌, ◌≤◌, ◌+◌, All, IsNone, vec_len}
use Rattle.shared_words.specs.Best.{IsLossSeatOf}
use Rattle.shared_words.specs.Meter.{IsTicketSeatOf}
use Rattle.shared_trials.specs.Trials.{AreSeatsOf}
use Rattle.shared_trials.proofs.words.all_seats.Given as goal

abbrev pub invariant-loop-number : goal.invariant-loop-number
invariant-loop-number l = record {
  loss : IsLossSeatOf l.best l.loss;
  ticket : IsTicketSeatOf l.meter l.ticket;
  losses : l.loss.shares + l.number ≡ 9;
  tickets : l.ticket.shares + l.number ≡ 9;
  spends : l.ticket.spends + l.number ≡ 9;
  count : vec_len l.all ≡ l.number;
  each : All (λ seats. AreSeatsOf l.best l.meter seats.loss seats.ticket
      × (IsNone seats.past → 1 ≤ seats.ticket.spends)) l.all.items;
}
