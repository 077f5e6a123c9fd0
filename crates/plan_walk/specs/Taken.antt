-- Orders in hand.
use Rattle.std.specs.Prelude.{ℕ, ◌<◌}
use Rattle.plan_walk.specs.declared.hand.Taken.{Taken}

-- an order of n that was taken off one of as many slabs, to be laid on another
pub record IsTaken (n : ℕ) (taken : Taken) : Type 0 where
  pub place : taken.place < n
  pub from : taken.from < n
  pub to : taken.to < n
