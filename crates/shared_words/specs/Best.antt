-- The least loss that any worker knows, and the seats of the workers that share it.
use Rattle.std.specs.Prelude.{◌≡◌, ℕ, List}
use Rattle.atomic_table.specs.Seated.{TableId}

-- the table that holds the word, the loss at the start, and the shares of all seats together
pub record LeastLoss : Type 0 where
  pub table : TableId
  pub start : ℕ
  pub shares : ℕ

-- a seat at such a table: its shares, the least loss that it saw, and what it published
pub record LossSeat : Type 0 where
  pub table : TableId
  pub start : ℕ
  pub shares : ℕ
  pub seen : ℕ
  pub mine : List ℕ

-- the seat is one of this least loss
abbrev pub IsLossSeatOf : LeastLoss → LossSeat → Type 0
IsLossSeatOf best seat = (seat.table ≡ best.table) × (seat.start ≡ best.start)
