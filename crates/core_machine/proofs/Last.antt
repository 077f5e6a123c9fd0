-- The last state of a run, from its first.
use Rattle.std.proofs.Common.{ℕ, ◌<◌, ◌≤◌, ◌≡◌, min, List, length, refl, subst, sym, arith}
use Rattle.std.specs.List.{AllByRecursion}
use Rattle.mill_model.specs.Charges.{ChargeTable}
use Rattle.order_symmetry.specs.Ranked.{RankedOrders, IsRanked}
use Rattle.search_step.specs.Serving.{IsPathOf}
use Rattle.search_step.specs.Steps.{FitsMill}
use Rattle.core_machine.proofs.Ends.{rounds-end}
use Rattle.core_machine.proofs.Found.{found-event}
use Rattle.core_machine.proofs.Good.{good-event}
use Rattle.core_machine.proofs.Runs.{rounds-keep, schedule-keeps}
use Rattle.core_machine.proofs.Starts.{found-first, good-first, steady-first, workers-count}
use Rattle.core_machine.proofs.Steady.{event-draws, steady-event}
use Rattle.core_machine.specs.Core.{Core, Rounds, after_schedule, event, first_state}
use Rattle.core_machine.specs.Kept.{IsLast, Keeps}
use Rattle.core_machine.specs.Steady.{IsSteady}

module _ (ranked : RankedOrders) (charges : ChargeTable) (budget : ℕ)
    (fit : FitsMill ranked charges) (start before : ℕ) (owed : List (List ℕ)) where
  abbrev Kept : Core → Type 0
  Kept c = Keeps ranked charges start budget before owed c

  pub kept-event : (c : Core) (i : ℕ) → i < length c.workers → Kept c →
      Kept (event ranked charges budget c i).0
  kept-event c i l k = record {
    steady = steady-event ranked charges budget fit.of_instance c i l k.steady;
    good = good-event ranked charges budget fit c i l k.steady start before owed k.good;
    found = found-event ranked charges budget fit c i l k.steady start before owed k.good k.found;
  }

  pub last-keeps : (c d : Core) (schedule : List ℕ) →
      AllByRecursion (λ i. i < length c.workers) schedule → Kept c →
      Rounds ranked charges budget (after_schedule ranked charges budget c schedule) d →
      IsLast ranked charges start budget before owed d
  last-keeps c d schedule numbers k rounds =
      let m : Core = after_schedule ranked charges budget c schedule in
      let then : Kept m =
      schedule-keeps ranked charges budget Kept kept-event c schedule numbers k in
      record {
        kept = rounds-keep ranked charges budget Kept kept-event m d rounds then;
        ends = rounds-end ranked charges budget fit.of_instance m d then.steady rounds;
      }

  -- of a run whose first state has new workers and the paths owed in deque 0
  pub first-keeps : (workers drawn : ℕ) → 0 < workers → workers ≤ 64 → drawn ≤ budget →
      before ≡ min drawn budget → AllByRecursion (IsPathOf ranked) owed →
      Kept (first_state workers (length ranked.placed) start drawn owed)
  first-keeps workers drawn some few within count tree = record {
    steady = steady-first ranked charges workers (length ranked.placed) start drawn owed budget
        some few refl within tree;
    good = good-first ranked charges workers (length ranked.placed) start drawn owed budget before
        some count;
    found = found-first ranked charges workers (length ranked.placed) start drawn owed;
  }

  pub run-keeps : (workers drawn : ℕ) (schedule : List ℕ) (d : Core) → 0 < workers →
      workers ≤ 64 → drawn ≤ budget → before ≡ min drawn budget →
      AllByRecursion (IsPathOf ranked) owed → AllByRecursion (λ i. i < workers) schedule →
      Rounds ranked charges budget (after_schedule ranked charges budget
      (first_state workers (length ranked.placed) start drawn owed) schedule) d →
      IsLast ranked charges start budget before owed d
  run-keeps workers drawn schedule d some few within count tree numbers rounds =
      last-keeps (first_state workers (length ranked.placed) start drawn owed) d schedule
      (subst (λ n. AllByRecursion (λ i. i < n) schedule)
      (sym (workers-count ranked charges workers (length ranked.placed) start)) numbers)
      (first-keeps workers drawn some few within count tree) rounds

-- a run draws no fewer tickets than it began with
pub run-draws : (ranked : RankedOrders) (charges : ChargeTable) (budget : ℕ) → IsRanked ranked →
    (c d : Core) (schedule : List ℕ) → AllByRecursion (λ i. i < length c.workers) schedule →
    IsSteady ranked charges budget c →
    Rounds ranked charges budget (after_schedule ranked charges budget c schedule) d →
    c.shared.drawn ≤ d.shared.drawn
run-draws ranked charges budget ranks c d schedule numbers steady rounds =
    (rounds-keep ranked charges budget More more-event
    (after_schedule ranked charges budget c schedule) d rounds
    (schedule-keeps ranked charges budget More more-event c schedule numbers
    (steady, omega arith))).1
  where
    More : Core → Type 0
    More m = IsSteady ranked charges budget m × (c.shared.drawn ≤ m.shared.drawn)

    more-event : (m : Core) (i : ℕ) → i < length m.workers → More m →
        More (event ranked charges budget m i).0
    more-event m i l k = (
      steady-event ranked charges budget ranks m i l k.0,
      omega (arith, k.1, event-draws ranked charges budget ranks m i l k.0),
    )
