-- A run of workers, whatever they began with.
use Rattle.std.specs.Prelude.{ℕ, ◌≤◌}
use Rattle.mill_model.specs.Charges.{ChargeTable}
use Rattle.mill_model.specs.declared.limits.TheConstants.{MAX_NODES}
use Rattle.order_symmetry.specs.Ranked.{RankedOrders}
use Rattle.refute_log.specs.declared.piece.Run.{Run}
use Rattle.search_step.specs.Promise.{IsRun}

pub record IsSomeRun (ranked : RankedOrders) (charges : ChargeTable) (run : Run) : Type 0 where
  pub start : ℕ
  pub nodes : ℕ
  pub few : nodes ≤ MAX_NODES
  pub is : IsRun ranked charges start nodes run
