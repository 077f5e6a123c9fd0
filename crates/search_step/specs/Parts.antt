-- A worker, as it is seen.
use Rattle.std.specs.Prelude.{ℕ, List, Option}
use Rattle.mill_model.specs.declared.closing.Entry.{Entry}
use Rattle.mill_model.specs.declared.plan.Start.{Start}
use Rattle.nogood_store.specs.Entries.{Stored}
use Rattle.search_step.specs.declared.parts.Phase.{Phase}

-- The parts that a step may change: the phase, the held path, the waiting children, the records of
-- the piece and for how many orders they are, the store, the least known loss, the next victim and
-- the best plan that it found.
pub record Parts : Type 0 where
  pub phase : Phase
  pub held : Option (List ℕ)
  pub waiting : List (List ℕ)
  pub piece : List Entry
  pub orders : ℕ
  pub store : Stored
  pub known : ℕ
  pub victim : ℕ
  pub best : Option Start
