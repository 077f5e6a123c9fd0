-- The seats of workers, at the least loss and at the tickets of a round.
use Rattle.std.specs.Prelude.{◌≡◌, ◌≤◌, ◌<◌, ◌+◌, ℕ, Bool, false, ◌||◌, List, [], ◌++◌, All}
use Rattle.std.specs.Prelude.{Contains}
use Rattle.std.specs.Prelude.{count_by, get_or, length, min}
use Rattle.core_machine.specs.Counts.{sum_of}
use Rattle.shared_words.specs.Best.{IsLossSeatOf, LeastLoss, LossSeat}
use Rattle.shared_words.specs.Meter.{IsTicketSeatOf, TicketMeter, TicketSeat}
use Rattle.steal_workers.specs.declared.seats.Seats.{Seats}

-- seats with so many shares that have seen, published and drawn nothing
abbrev pub new_loss_seat : LeastLoss → ℕ → LossSeat
new_loss_seat best shares = record {
  table = best.table;
  start = best.start;
  shares = shares;
  seen = best.start;
  mine = [];
}

abbrev pub new_ticket_seat : TicketMeter → ℕ → TicketSeat
new_ticket_seat meter shares = record {
  table = meter.table;
  nodes = meter.nodes;
  shares = shares;
  spends = shares;
  tickets = [];
  mark = false;
  heard = false;
}

-- the seats of a worker at the start of a round
pub record AreNew (best : LeastLoss) (meter : TicketMeter) (seats : Seats) : Type 0 where
  pub loss : seats.loss ≡ new_loss_seat best 1
  pub ticket : seats.ticket ≡ new_ticket_seat meter 1

-- the seats of a worker at its end
pub record AreSeatsOf (best : LeastLoss) (meter : TicketMeter) (seats : Seats) : Type 0 where
  pub loss : IsLossSeatOf best seats.loss
  pub loss_share : seats.loss.shares ≡ 1
  pub ticket : IsTicketSeatOf meter seats.ticket
  pub ticket_share : seats.ticket.shares ≡ 1

-- seats that know what two knew
abbrev pub both_seats : Seats → Seats → Seats
both_seats a b = record {
  loss = record a.loss {
    shares = a.loss.shares + b.loss.shares;
    seen = min a.loss.seen b.loss.seen;
    mine = a.loss.mine ++ b.loss.mine;
  };
  ticket = record a.ticket {
    shares = a.ticket.shares + b.ticket.shares;
    spends = a.ticket.spends + b.ticket.spends;
    tickets = a.ticket.tickets ++ b.ticket.tickets;
    mark = a.ticket.mark || b.ticket.mark;
    heard = a.ticket.heard || b.ticket.heard;
  };
}

-- one of the workers published a loss
pub record IsPublished (all : List Seats) (loss : ℕ) : Type 0 where
  pub number : ℕ
  pub there : number < length all
  pub by : (d : Seats) → Contains (get_or all number d).loss.mine loss

-- the seats of all workers, put together
pub record AreJoined (best : LeastLoss) (meter : TicketMeter) (all : List Seats) (whole : Seats)
    : Type 0 where
  pub loss : IsLossSeatOf best whole.loss
  pub loss_shares : whole.loss.shares ≡ length all
  pub ticket : IsTicketSeatOf meter whole.ticket
  pub ticket_shares : whole.ticket.shares ≡ length all
  pub seen : All (λ seats. whole.loss.seen ≤ seats.loss.seen) all
  pub published : (loss : ℕ) → Contains whole.loss.mine loss → IsPublished all loss
  pub tickets : (test : ℕ → Bool) →
      count_by test whole.ticket.tickets
      ≡ sum_of (λ seats. count_by test seats.ticket.tickets) all
