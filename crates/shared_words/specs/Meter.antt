-- The tickets that workers draw within a budget, and the seats of these workers.
use Rattle.std.specs.Prelude.{◌≡◌, ℕ, Bool, List, nat_eq, nat_lt, if◌then◌else◌, count_by}
use Rattle.atomic_table.specs.Seated.{TableId}
use Rattle.mill_model.specs.declared.limits.Draw.{Draw}
use Rattle.mill_model.specs.declared.limits.Draw.TheVariants.{Ticket, Spent}

-- the table that holds the words, the budget, and the shares of all seats together
pub record TicketMeter : Type 0 where
  pub table : TableId
  pub nodes : ℕ
  pub shares : ℕ

-- a seat at such a table: its shares, how many draws past the budget it may still make, the numbers
-- that it drew, those past the budget included, whether it halted, and whether it heard of a halt
pub record TicketSeat : Type 0 where
  pub table : TableId
  pub nodes : ℕ
  pub shares : ℕ
  pub spends : ℕ
  pub tickets : List ℕ
  pub mark : Bool
  pub heard : Bool

-- the seat is one of this meter
abbrev pub IsTicketSeatOf : TicketMeter → TicketSeat → Type 0
IsTicketSeatOf meter seat = (seat.table ≡ meter.table) × (seat.nodes ≡ meter.nodes)

-- the number drawn
abbrev pub number_of : Draw → ℕ
number_of (Ticket number) = number
number_of (Spent number) = number

-- what a draw takes of a seat's draws past the budget
abbrev pub spend_of : Draw → ℕ
spend_of (Ticket number) = 0
spend_of (Spent number) = 1

-- a number below the budget is a ticket, and any other is past it
abbrev pub draw_at : ℕ → ℕ → Draw
draw_at nodes number = if nat_lt number nodes then Ticket number else Spent number

-- how often x stands among the numbers below t, which have it once or not at all
abbrev pub once_below : ℕ → ℕ → ℕ
once_below x t = if nat_lt x t then 1 else 0

-- the list has the numbers below t, each once, in some order
abbrev pub AreNumbersBelow : ℕ → List ℕ → Type 0
AreNumbersBelow t numbers = (x : ℕ) → count_by (nat_eq x) numbers ≡ once_below x t
