-- The log that the pieces of a run become, where the run has no unclosed path.
use Rattle.std.specs.Prelude.{ℕ, ◌<◌, ◌≡◌, ◌≤◌, ◌++◌, true, List, [], map}
use Rattle.std.specs.List.{AllByRecursion}
use Rattle.list_laws.specs.Sets.{same_list, times}
use Rattle.mill_model.specs.Log.{Task, recorded, names_settled, IsComplete}
use Rattle.mill_model.specs.Conserved.{IsConserved}
use Rattle.mill_model.specs.declared.closing.Entry.{Entry}
use Rattle.refute_log.specs.Pieces.{Pieced}

-- the records of each piece
abbrev pub records_of : List Pieced → List (List Entry)
records_of pieces = map (λ piece. piece.entries) pieces

-- over some ranked orders the pieces are conserved, with no path unclosed
pub record AreOfAWholeRun (pieces : List (List Entry)) : Type 0 where
  pub task : Task
  pub conserved : IsConserved task pieces []

-- over all ranked orders over which the pieces are so, the log is complete
pub record IsCompleteLogOf (pieces : List (List Entry)) (log : List Entry) : Type 0 where
  pub complete : (task : Task) → IsConserved task pieces [] → IsComplete task log

-- what a record of the log names has a record there that is not dominated
abbrev pub NamesSettledPaths : List Entry → Type 0
NamesSettledPaths log = AllByRecursion (λ entry. names_settled log entry.closing ≡ true) log

-- no path has two records
abbrev pub IsRecordedOnce : List Entry → Type 0
IsRecordedOnce log = (path : List ℕ) → times same_list path (recorded log) ≤ 1

-- each front of a path that is recorded is recorded too
abbrev pub HasAllFronts : List Entry → Type 0
HasAllFronts log =
    (path rest : List ℕ) → 0 < times same_list (path ++ rest) (recorded log) →
    0 < times same_list path (recorded log)
