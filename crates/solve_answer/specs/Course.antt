-- How the workers of a search took their turns.
use Rattle.std.specs.Prelude.{ℕ, List}

-- one after the other, first as a schedule says and then in rounds; or running beside each other,
-- in whatever order
pub data Course : Type 0 where
  Scheduled : List ℕ → Course
  Running : Course
