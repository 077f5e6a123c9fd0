-- What the workers of a trial are handed, and hand back.
use Rattle.std.specs.Prelude.{◌≡◌}
use Rattle.order_symmetry.specs.Ranked.{RankedOrders}
use Rattle.shared_words.specs.Best.{LeastLoss, LossSeat, IsLossSeatOf}
use Rattle.shared_words.specs.Meter.{TicketMeter, TicketSeat, IsTicketSeatOf}
use Rattle.steal_deques.specs.Deque.{DequeOwner}

-- the seats of one worker, with one share each
pub record AreSeatsOf (best : LeastLoss) (meter : TicketMeter) (loss : LossSeat)
    (ticket : TicketSeat) : Type 0 where
  pub loss_of : IsLossSeatOf best loss
  pub loss_share : loss.shares ≡ 1
  pub ticket_of : IsTicketSeatOf meter ticket
  pub ticket_share : ticket.shares ≡ 1

-- the owner of a deque for these orders, with seven shares, none of which is lent
pub record IsUnlent (ranked : RankedOrders) (own : DequeOwner) : Type 0 where
  pub orders : own.ranked ≡ ranked
  pub all : own.all ≡ 7
  pub shares : own.shares ≡ 7
