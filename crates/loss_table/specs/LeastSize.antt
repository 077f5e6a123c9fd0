-- The least size that holds a load.
use Rattle.std.specs.Prelude.{ℕ, ◌≤◌, List, Contains}

-- a size of the list is at least the load, and no lesser one is
pub record IsLeastSize (sizes : List ℕ) (load size : ℕ) : Type 0 where
  pub listed : Contains sizes size
  pub enough : load ≤ size
  pub least : (other : ℕ) → Contains sizes other → load ≤ other → size ≤ other
