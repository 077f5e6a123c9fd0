-- What a replay leaves.
use Rattle.std.specs.Prelude.{ℕ, ◌≡◌, List}
use Rattle.list_laws.specs.Sets.{same_list, SameTimes}
use Rattle.mill_model.specs.Charges.{ChargeTable}
use Rattle.order_symmetry.specs.Ranked.{RankedOrders}
use Rattle.refute_log.specs.declared.piece.Run.{Run}
use Rattle.search_step.specs.Promise.{records_of}
use Rattle.core_machine.specs.Core.{Core, IsCoreRun, pieces_of, unclosed_of}

-- A run is what the core run of a schedule leaves in its last state: the records of its workers in
-- their order, its unclosed paths, its least loss and its number of tickets.
pub record IsLeftBy (ranked : RankedOrders) (charges : ChargeTable) (nodes workers start : ℕ)
    (schedule : List ℕ) (run : Run) : Type 0 where
  pub last : Core
  pub is : IsCoreRun ranked charges nodes workers start schedule last
  pub pieces : records_of run ≡ pieces_of last
  pub unclosed : SameTimes same_list run.unclosed.items (unclosed_of last)
  pub loss : run.loss ≡ last.shared.least
  pub drawn : run.drawn ≡ last.shared.drawn
