-- A worker: what it goes by, and its parts.
use Rattle.std.specs.Prelude.{ℕ, ◌<◌, ◌≤◌}
use Rattle.mill_model.specs.Charges.{ChargeTable}
use Rattle.order_symmetry.specs.Ranked.{RankedOrders}
use Rattle.search_step.specs.Parts.{Parts}
use Rattle.search_step.specs.Steps.{FitsMill, IsSafe}

-- its ranked orders, the charges, its number among so many workers, and the parts that steps change
pub record WorkerParts : Type 0 where
  pub ranked : RankedOrders
  pub charges : ChargeTable
  pub number : ℕ
  pub workers : ℕ
  pub parts : Parts

-- a worker is one of so many, and its parts are safe
pub record IsSafeWorker (w : WorkerParts) : Type 0 where
  pub among : w.number < w.workers
  pub safe : IsSafe w.ranked w.charges w.workers w.number w.parts

-- what each worker keeps
pub record IsWorker (w : WorkerParts) : Type 0 where
  pub among : w.number < w.workers
  pub few : w.workers ≤ 64
  pub fits : FitsMill w.ranked w.charges
  pub safe : IsSafe w.ranked w.charges w.workers w.number w.parts
