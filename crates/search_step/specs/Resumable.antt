-- What a run can be gone on from, and what further workers make of it.
use Rattle.std.specs.Prelude.{ℕ, ◌≡◌, ◌≤◌, true, min, List, ◌++◌, length}
use Rattle.mill_model.specs.Charges.{ChargeTable}
use Rattle.mill_model.specs.Conserved.{joined, IsConserved}
use Rattle.mill_model.specs.Log.{sound}
use Rattle.mill_model.specs.declared.closing.Entry.{Entry}
use Rattle.mill_model.specs.declared.plan.Start.{Start}
use Rattle.mill_laws.specs.RunLaws.{EachRecord}
use Rattle.order_symmetry.specs.Ranked.{RankedOrders}
use Rattle.refute_log.specs.Fits.{fits}
use Rattle.refute_log.specs.declared.piece.Run.{Run}
use Rattle.search_step.specs.Honest.{IsKept}
use Rattle.search_step.specs.Promise.{records_of, IsThrifty, EachSplitsAnew}
use Rattle.search_step.specs.Steps.{task_at}

-- the plan of a run with its loss
abbrev pub start_of : Run → Start
start_of run = record { plan = run.plan; loss = run.loss }

-- A run that can be gone on from: no path of it is lost or recorded twice, each record is sound for
-- its loss, which its plan loses, and each ticket is a record.
pub record IsResumable (ranked : RankedOrders) (charges : ChargeTable) (nodes : ℕ) (run : Run)
    : Type 0 where
  pub conserved : IsConserved (task_at ranked charges) (records_of run) run.unclosed.items
  pub each_sound :
      EachRecord (records_of run)
      (λ entry. sound (task_at ranked charges) run.loss entry.path entry.closing ≡ true)
  pub fit : EachRecord (records_of run) (λ entry. fits (length ranked.placed) entry ≡ true)
  pub plan : IsKept ranked charges (start_of run)
  pub count : length (joined (records_of run)) ≡ min run.drawn nodes

-- What further workers make of a run: the pieces are those given and then theirs, which split no
-- path for which one stands that they split before; no fewer tickets are drawn; and for a loss that
-- is at least the given run's, thrift stays.
pub record GoesOnFrom (ranked : RankedOrders) (charges : ChargeTable) (given run : Run)
    : Type 0 where
  pub more : List (List Entry)
  pub pieces : records_of run ≡ records_of given ++ more
  pub anew : EachSplitsAnew ranked charges more
  pub drawn : given.drawn ≤ run.drawn
  pub thrifty :
      (loss : ℕ) → given.loss ≤ loss → IsThrifty ranked charges loss given →
      IsThrifty ranked charges loss run
