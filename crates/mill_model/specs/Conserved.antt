-- Pieces of a run: nothing is lost and nothing recorded twice.
use Rattle.std.specs.Prelude.{ℕ, ◌≡◌, true, List, [], ◌∷◌, ◌++◌}
use Rattle.std.specs.List.{AllByRecursion}
use Rattle.list_laws.specs.Sets.{same_list, SameTimes}
use Rattle.mill_model.specs.Log.{Task, recorded, split_children, names_settled}
use Rattle.mill_model.specs.declared.closing.Entry.{Entry}

-- the records of all pieces
abbrev pub joined : List (List Entry) → List Entry
joined [] = []
joined (piece ∷ pieces) = piece ++ joined pieces

-- the recorded and the unclosed paths are the empty path and the children of the split ones, and
-- what a piece names it has
pub record IsConserved (task : Task) (pieces : List (List Entry)) (unclosed : List (List ℕ))
    : Type 0 where
  pub paths :
      SameTimes same_list (recorded (joined pieces) ++ unclosed)
      ([] ∷ split_children task (joined pieces))
  pub named :
      AllByRecursion
      (λ piece. AllByRecursion (λ entry. names_settled piece entry.closing ≡ true) piece)
      pieces
