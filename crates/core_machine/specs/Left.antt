-- What workers leave that went on from a run.
use Rattle.std.specs.Prelude.{◌≡◌, ◌++◌}
use Rattle.list_laws.specs.Sets.{same_list, SameTimes}
use Rattle.refute_log.specs.declared.piece.Run.{Run}
use Rattle.search_step.specs.Promise.{records_of}
use Rattle.search_step.specs.Resumable.{start_of}
use Rattle.core_machine.specs.Core.{Core, pieces_of, unclosed_of}
use Rattle.core_machine.specs.Kept.{best_of}

-- The pieces of the given run come first, then those of the workers in the state that they came
-- to. The plan is the best of the given run's and theirs, and the unclosed paths are those of the
-- state.
pub record IsLeftAfter (given : Run) (c : Core) (run : Run) : Type 0 where
  pub pieces : records_of run ≡ records_of given ++ pieces_of c
  pub unclosed : SameTimes same_list run.unclosed.items (unclosed_of c)
  pub best : start_of run ≡ best_of (start_of given) c.workers
  pub drawn : run.drawn ≡ c.shared.drawn
