use Rattle.std.proofs.Common.{◌≡◌, ◌+◌, ◌≤◌, All, length}
use Rattle.steal_workers.specs.Seats.{AreNew, new_loss_seat, new_ticket_seat}
use Rattle.steal_workers.proofs.seats.split_seats.Given as goal

abbrev pub invariant-loop : goal.invariant-loop
invariant-loop l = record {
  within : l.counter ≤ l.workers;
  shares : l.whole.loss.shares + l.counter ≡ l.workers + 1;
  loss : l.whole.loss ≡ new_loss_seat l.best l.whole.loss.shares;
  ticket : l.whole.ticket ≡ new_ticket_seat l.meter l.whole.loss.shares;
  count : length l.seats.items + 1 ≡ l.counter;
  new : All (AreNew l.best l.meter) l.seats.items;
}
