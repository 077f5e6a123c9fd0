-- What further workers leave of a run that they went on from.
use Rattle.std.specs.Prelude.{ℕ, ◌≡◌, ◌<◌, ◌≤◌, All, List, length}
use Rattle.std.specs.List.{AllByRecursion}
use Rattle.mill_model.specs.Charges.{ChargeTable, Reaches}
use Rattle.mill_model.specs.declared.limits.TheConstants.{MAX_NODES}
use Rattle.order_symmetry.specs.Ranked.{RankedOrders, orders_of}
use Rattle.refute_log.specs.declared.piece.Run.{Run}
use Rattle.search_step.specs.Resumable.{IsResumable}
use Rattle.core_machine.specs.Core.{Core, Rounds, after_schedule, first_state}
use Rattle.core_machine.specs.Left.{IsLeftAfter}

-- what workers need that go on from a run
pub record CanResume (ranked : RankedOrders) (charges : ChargeTable) (nodes workers : ℕ)
    (schedule : List ℕ) (given : Run) : Type 0 where
  pub light : All (λ order. order.weight ≤ ranked.mill.largest) (orders_of ranked)
  pub reach : Reaches charges ranked.mill
  pub some : 1 ≤ workers
  pub few : workers ≤ 64
  pub within : nodes ≤ MAX_NODES
  pub drawn : given.drawn ≤ nodes
  pub resumable : IsResumable ranked charges nodes given
  pub numbers : AllByRecursion (λ (number : ℕ). number < workers) schedule

-- With the unclosed paths of the given run in deque 0, its loss and its number of tickets, workers
-- made the events of a schedule, then rounds to their end, and left the run, with the least loss.
pub record IsResumed (ranked : RankedOrders) (charges : ChargeTable) (nodes workers : ℕ)
    (schedule : List ℕ) (given run : Run) : Type 0 where
  pub last : Core
  pub rounds :
      Rounds ranked charges nodes
      (after_schedule ranked charges nodes
      (first_state workers (length ranked.placed) given.loss given.drawn given.unclosed.items)
      schedule) last
  pub left : IsLeftAfter given last run
  pub loss : run.loss ≡ last.shared.least
