-- What a run keeps, however its workers took turns.
use Rattle.std.specs.Prelude.{ℕ, ◌≡◌, ◌≢◌, ◌<◌, ◌≤◌, true, min, List, [], map, length}
use Rattle.std.specs.List.{AllPairs, AllByRecursion}
use Rattle.mill_model.specs.Charges.{ChargeTable, charge_of}
use Rattle.mill_model.specs.Conserved.{joined, IsConserved}
use Rattle.mill_model.specs.Log.{sound}
use Rattle.mill_model.specs.Plan.{IsPlanWithLoss}
use Rattle.mill_model.specs.Rank.{rank}
use Rattle.mill_model.specs.Thrift.{AreThrifty}
use Rattle.mill_model.specs.declared.closing.Entry.{Entry}
use Rattle.mill_model.specs.declared.order.Order.{Order}
use Rattle.mill_laws.specs.RunLaws.{EachRecord}
use Rattle.order_symmetry.specs.Ranked.{RankedOrders}
use Rattle.refute_log.specs.Fits.{fits}
use Rattle.refute_log.specs.declared.piece.Run.{Run}
use Rattle.search_step.specs.Honest.{SplitsAnew}
use Rattle.search_step.specs.Steps.{task_at}

-- the records of a run's pieces
abbrev pub records_of : Run → List (List Entry)
records_of run = map (λ piece. piece.entries) run.pieces.items

-- each record of a piece has the lengths and numbers that a record of a log may have
abbrev pub AllFit : RankedOrders → List Entry → Type 0
AllFit ranked piece = AllByRecursion (λ entry. fits (length ranked.placed) entry ≡ true) piece

-- What a run keeps that began with a plan that loses so much, and had so many tickets: no path is
-- lost or recorded twice, each record is sound for the run's loss, which its plan loses, each
-- ticket is a record, and a path is left only where tickets wanted.
pub record IsRun (ranked : RankedOrders) (charges : ChargeTable) (start nodes : ℕ) (run : Run)
    : Type 0 where
  pub conserved : IsConserved (task_at ranked charges) (records_of run) run.unclosed.items
  pub each_sound :
      EachRecord (records_of run)
      (λ entry. sound (task_at ranked charges) run.loss entry.path entry.closing ≡ true)
  pub fit : EachRecord (records_of run) (λ entry. fits (length ranked.placed) entry ≡ true)
  pub plan :
      (orders : List Order) → ranked.placed ≡ rank orders →
      IsPlanWithLoss ranked.mill (charge_of charges) orders run.plan run.loss
  pub at_most : run.loss ≤ start
  pub count : length (joined (records_of run)) ≡ min run.drawn nodes
  pub left : run.unclosed.items ≢ [] → nodes < run.drawn

-- a run splits a path only where neither the ascent there nor one sweep refutes this loss
pub record IsThrifty (ranked : RankedOrders) (charges : ChargeTable) (loss : ℕ) (run : Run)
    : Type 0 where
  pub thrifty : AreThrifty (task_at ranked charges) loss (joined (records_of run))

-- of a piece with fewer records than its worker could note, no path is split for which one stands
-- that was split before
pub record SplitsEachAnew (ranked : RankedOrders) (charges : ChargeTable) (piece : List Entry)
    : Type 0 where
  pub anew : length piece < 65536 → AllPairs (SplitsAnew (task_at ranked charges)) piece

-- each piece does so
abbrev pub EachSplitsAnew : RankedOrders → ChargeTable → List (List Entry) → Type 0
EachSplitsAnew ranked charges pieces = AllByRecursion (SplitsEachAnew ranked charges) pieces
