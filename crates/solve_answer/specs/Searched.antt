-- Searches of a problem's tree: where they begin, and what they leave by the course that their
-- workers took.
use Rattle.std.specs.Prelude.{ℕ, ◌≡◌, ◌≢◌, ◌≤◌, true, List, [], length}
use Rattle.std.specs.List.Sorted.{IsPermutation}
use Rattle.mill_model.specs.Best.{IsStartOf}
use Rattle.mill_model.specs.Charges.{ChargeTable}
use Rattle.mill_model.specs.Conserved.{joined, IsConserved}
use Rattle.mill_model.specs.Instance.{Problem, mill_of, loss_charge}
use Rattle.mill_model.specs.Log.{Task, task_of, sound}
use Rattle.mill_model.specs.Pairs.{IsStartBound}
use Rattle.mill_model.specs.Thrift.{AreThrifty}
use Rattle.mill_model.specs.Tree.{canonical}
use Rattle.mill_model.specs.declared.closing.Entry.{Entry}
use Rattle.mill_model.specs.declared.limits.Limits.{Limits}
use Rattle.mill_laws.specs.RunLaws.{EachRecord}
use Rattle.loss_table.specs.Charges.{AreCharges}
use Rattle.order_symmetry.specs.Ranked.{RankedOrders, IsRankOf}
use Rattle.refute_log.specs.declared.piece.Run.{Run}
use Rattle.search_step.specs.Promise.{records_of, EachSplitsAnew}
use Rattle.core_machine.specs.Core.{Core, IsCoreRun, pieces_of}
use Rattle.core_replay.specs.Replayed.{IsLeftBy}
use Rattle.solve_answer.specs.Course.{Course, Scheduled, Running}

-- what the logs and runs of a problem are judged by
abbrev pub loss_task : Problem → Task
loss_task problem = task_of problem (loss_charge problem.sizes)

-- Something is so of the start bound for so many moves: the greatest loss of a possible start.
pub record OfStartBound (problem : Problem) (moves : ℕ) (IsSo : ℕ → Type 0) : Type 0 where
  pub bound : ℕ
  pub is_bound :
      IsStartBound (mill_of problem) (loss_charge problem.sizes) problem.orders moves bound
  pub so : IsSo bound

-- A search of a problem goes by its orders in rank and its charges, and begins with a loss: that of
-- a legal plan, and no more than the start bound.
pub record MayBegin (problem : Problem) (moves : ℕ) (ranked : RankedOrders)
    (charges : ChargeTable) (loss : ℕ) : Type 0 where
  pub rank : IsRankOf problem ranked
  pub table : AreCharges problem charges
  pub plan : List ℕ
  pub legal : IsStartOf problem (loss_charge problem.sizes) (record { plan = plan; loss = loss })
  pub at_most : OfStartBound problem moves (λ bound. loss ≤ bound)

-- Pieces are those of a search that began with this loss. With a schedule they are the pieces of
-- its core run. Of running workers no core run is named.
abbrev pub ArePiecesOf : Course → RankedOrders → ChargeTable → Limits → ℕ → List (List Entry) →
    Type 0
ArePiecesOf (Scheduled schedule) ranked charges limits loss pieces =
    (last : Core) × IsCoreRun ranked charges limits.nodes limits.workers loss schedule last
    × (pieces ≡ pieces_of last)
ArePiecesOf Running ranked charges limits loss pieces = Unit {0}

-- A run is what such a search leaves: with a schedule that what its core run leaves.
abbrev pub IsLeftOf : Course → RankedOrders → ChargeTable → Limits → ℕ → Run → Type 0
IsLeftOf (Scheduled schedule) ranked charges limits loss run =
    IsLeftBy ranked charges limits.nodes limits.workers loss schedule run
IsLeftOf Running ranked charges limits loss run = Unit {0}

module _ (limits : Limits) (course : Course) (problem : Problem) where
  -- The records of a log are those of the pieces of such a search. No piece of fewer than 65,536
  -- records splits a path for which one stands that it split before.
  pub record AreOfASearch (log : List Entry) : Type 0 where
    pub ranked : RankedOrders
    pub charges : ChargeTable
    pub loss : ℕ
    pub begins : MayBegin problem limits.moves ranked charges loss
    pub pieces : List (List Entry)
    pub are : ArePiecesOf course ranked charges limits loss pieces
    pub records : IsPermutation (joined pieces) log
    pub anew : EachSplitsAnew ranked charges pieces

  -- a run is what such a search leaves, and its pieces split so
  pub record IsOfASearch (run : Run) : Type 0 where
    pub ranked : RankedOrders
    pub charges : ChargeTable
    pub loss : ℕ
    pub begins : MayBegin problem limits.moves ranked charges loss
    pub left : IsLeftOf course ranked charges limits loss run
    pub anew : EachSplitsAnew ranked charges (records_of run)

  -- A run stopped with its budget spent, and with this plan and its loss but for the numbers of the
  -- slabs: no path of it is lost or recorded twice, its records are sound for that loss, as many as
  -- the budget, and thrifty, and some path is left.
  pub record HasStopped (loss : ℕ) (plan : List ℕ) (run : Run) : Type 0 where
    pub conserved : IsConserved (loss_task problem) (records_of run) run.unclosed.items
    pub each_sound :
        EachRecord (records_of run)
        (λ entry. sound (loss_task problem) loss entry.path entry.closing ≡ true)
    pub loses : run.loss ≡ loss
    pub same_slabs : canonical run.plan ≡ plan
    pub count : length (joined (records_of run)) ≡ limits.nodes
    pub left : run.unclosed.items ≢ []
    pub thrifty :
        OfStartBound problem limits.moves
        (λ bound. AreThrifty (loss_task problem) bound (joined (records_of run)))
    pub of_a_search : IsOfASearch run
