-- The laws of the machine: its events are the steps of workers, each run ends in one state, and
-- what is left there keeps the promise of a run.
use Rattle.std.specs.Prelude.{ℕ, ◌<◌, ◌≤◌, ◌≡◌, ◌≢◌, true, min, List, [], ◌++◌, length, set}
use Rattle.std.specs.List.{AllByRecursion}
use Rattle.mill_laws.specs.RunLaws.{EachRecord}
use Rattle.mill_model.specs.Charges.{ChargeTable}
use Rattle.mill_model.specs.Conserved.{joined, IsConserved}
use Rattle.mill_model.specs.Log.{sound}
use Rattle.mill_model.specs.Thrift.{AreThrifty}
use Rattle.mill_model.specs.declared.closing.Entry.{Entry}
use Rattle.mill_model.specs.declared.plan.Start.{Start}
use Rattle.order_symmetry.specs.Ranked.{RankedOrders, IsRanked}
use Rattle.search_step.specs.Honest.{IsKept}
use Rattle.search_step.specs.Parts.{Parts}
use Rattle.search_step.specs.Promise.{EachSplitsAnew}
use Rattle.search_step.specs.Steps.{FitsMill, Steps, task_at}
use Rattle.search_step.specs.declared.parts.Turn.{Turn}
use Rattle.search_step.specs.declared.parts.Turn.TheVariants.{OutOfMemory}
use Rattle.core_machine.specs.Calls.{called}
use Rattle.core_machine.specs.Core.{Core, IsCoreRun, Rounds, Shared, after_schedule, any_busy}
use Rattle.core_machine.specs.Core.{event, first_state, pieces_of, step, unclosed_of, worker}
use Rattle.core_machine.specs.Kept.{best_of}
use Rattle.core_machine.specs.Steady.{IsSteady}

-- a step of a worker over the calls of one thread, from a state of the machine
abbrev pub StepsFrom : RankedOrders → ChargeTable → ℕ → Core → ℕ → Turn → Parts → Shared → Type 0
StepsFrom ranked charges budget c number turn next after =
    Steps (called budget number (any_busy c.workers)) ranked charges (length c.workers) number
    (worker c number) c.shared turn next after

-- what an event makes is a step of its worker
abbrev pub EventsAreSteps : Type 0
EventsAreSteps =
    (ranked : RankedOrders) (charges : ChargeTable) (budget : ℕ) (c : Core) (number : ℕ) →
    IsRanked ranked → IsSteady ranked charges budget c → number < length c.workers →
    StepsFrom ranked charges budget c number (step ranked charges budget c number).1.1
    (step ranked charges budget c number).1.0 (step ranked charges budget c number).0

-- and each step of a worker that doesn't want memory makes what the event makes
abbrev pub StepsAreEvents : Type 0
StepsAreEvents =
    (ranked : RankedOrders) (charges : ChargeTable) (budget : ℕ) (c : Core) (number : ℕ)
    (turn : Turn) (next : Parts) (after : Shared) → IsRanked ranked →
    IsSteady ranked charges budget c → number < length c.workers →
    StepsFrom ranked charges budget c number turn next after → turn ≢ OutOfMemory →
    event ranked charges budget c number
    ≡ (record { shared = after; workers = set c.workers number next }, turn)

-- each run of new workers ends
abbrev pub EachRunEnds : Type 0
EachRunEnds =
    (ranked : RankedOrders) (charges : ChargeTable) (budget workers loss : ℕ)
    (schedule : List ℕ) → IsRanked ranked → 0 < workers → workers ≤ 64 →
    AllByRecursion (λ number. number < workers) schedule →
    (last : Core) × IsCoreRun ranked charges budget workers loss schedule last

-- in one state, which its orders, charges, tickets, workers, loss and schedule determine
abbrev pub OneLastState : Type 0
OneLastState =
    (ranked : RankedOrders) (charges : ChargeTable) (budget workers loss : ℕ)
    (schedule : List ℕ) (last other : Core) →
    IsCoreRun ranked charges budget workers loss schedule last →
    IsCoreRun ranked charges budget workers loss schedule other → last ≡ other

-- Of the last state of a run that began with some pieces and a loss: with these pieces no path is
-- lost or recorded twice, each record is sound for the least loss, which the best plan loses, each
-- ticket is a record, and a path is left only where tickets wanted. The pieces of the workers are
-- thrifty for the loss at the start, and split each path anew.
pub record KeepsPromise (ranked : RankedOrders) (charges : ChargeTable) (start budget : ℕ)
    (given : List (List Entry)) (last : Core) : Type 0 where
  pub conserved :
      IsConserved (task_at ranked charges) (given ++ pieces_of last) (unclosed_of last)
  pub each_sound :
      EachRecord (given ++ pieces_of last)
      (λ entry. sound (task_at ranked charges) last.shared.least entry.path entry.closing ≡ true)
  pub at_most : last.shared.least ≤ start
  pub best : (first : Start) → IsKept ranked charges first → first.loss ≡ start →
      IsKept ranked charges (best_of first last.workers)
      × ((best_of first last.workers).loss ≡ last.shared.least)
  pub count : length (joined (given ++ pieces_of last)) ≡ min last.shared.drawn budget
  pub left : unclosed_of last ≢ [] → budget < last.shared.drawn
  pub thrifty : AreThrifty (task_at ranked charges) start (joined (pieces_of last))
  pub anew : EachSplitsAnew ranked charges (pieces_of last)

-- of a run that goes on from pieces, unclosed paths and a number of tickets
abbrev pub RunsKeepTheirPromise : Type 0
RunsKeepTheirPromise =
    (ranked : RankedOrders) (charges : ChargeTable) (budget workers start drawn : ℕ)
    (schedule : List ℕ) (given : List (List Entry)) (owed : List (List ℕ)) (last : Core) →
    FitsMill ranked charges → 0 < workers → workers ≤ 64 → drawn ≤ budget →
    AllByRecursion (λ number. number < workers) schedule →
    IsConserved (task_at ranked charges) given owed →
    EachRecord given
    (λ entry. sound (task_at ranked charges) start entry.path entry.closing ≡ true) →
    length (joined given) ≡ min drawn budget →
    Rounds ranked charges budget (after_schedule ranked charges budget
    (first_state workers (length ranked.placed) start drawn owed) schedule) last →
    KeepsPromise ranked charges start budget given last

-- and so of a run from the start
abbrev pub CoreRunsKeepTheirPromise : Type 0
CoreRunsKeepTheirPromise =
    (ranked : RankedOrders) (charges : ChargeTable) (budget workers start : ℕ)
    (schedule : List ℕ) (last : Core) → FitsMill ranked charges → 0 < workers → workers ≤ 64 →
    AllByRecursion (λ number. number < workers) schedule →
    IsCoreRun ranked charges budget workers start schedule last →
    KeepsPromise ranked charges start budget [] last
