-- Each record of each worker has the lengths and numbers that a record of a log may have, through a
-- whole run: new workers have no records, and each event is a step, which keeps it so.
use Rattle.std.proofs.Common.{ℕ, ◌<◌, ◌≡◌, true, List, [], ◌∷◌, length, map}
use Rattle.std.specs.List.{AllByRecursion}
use Rattle.list_laws.specs.Sets.{below}
use Rattle.mill_model.specs.Charges.{ChargeTable}
use Rattle.mill_laws.specs.RunLaws.{EachRecord}
use Rattle.order_symmetry.specs.Ranked.{RankedOrders}
use Rattle.refute_log.specs.Fits.{fits}
use Rattle.search_step.specs.Moves.{new_worker}
use Rattle.search_step.specs.Parts.{Parts}
use Rattle.search_step.specs.Promise.{AllFit}
use Rattle.search_step.specs.Steps.{FitsMill}
use Rattle.search_step.proofs.StaysFit.{steps-stay-fit}
use Rattle.core_machine.specs.Calls.{called}
use Rattle.core_machine.specs.Core.{Core, Rounds, after_schedule, any_busy, event, first_state}
use Rattle.core_machine.specs.Core.{new_workers, no_worker, pieces_of, step, worker}
use Rattle.core_machine.specs.Steady.{EachWorker, IsSteady}
use Rattle.core_machine.proofs.Joined.{each-piece}
use Rattle.core_machine.proofs.Lists.{all-from-places, all-get-or}
use Rattle.core_machine.proofs.Runs.{rounds-keep, schedule-keeps}
use Rattle.core_machine.proofs.Steady.{each-with, event-is-step, steady-event}

abbrev pub EachFit : RankedOrders → Core → Type 0
EachFit ranked c = EachWorker c (λ i w. AllFit ranked w.piece)

module _ (ranked : RankedOrders) (charges : ChargeTable) (budget : ℕ)
    (mill : FitsMill ranked charges) where
  step-fits : (c : Core) (i : ℕ) → i < length c.workers → IsSteady ranked charges budget c →
      AllFit ranked (worker c i).piece →
      AllFit ranked (step ranked charges budget c i).1.0.piece
  step-fits c i l steady all =
      steps-stay-fit (called budget i (any_busy c.workers)) ranked charges (length c.workers) i
      (worker c i) c.shared (step ranked charges budget c i).0 mill (steady.safe i l)
      (step ranked charges budget c i).1.1 (step ranked charges budget c i).1.0
      (event-is-step ranked charges budget mill.of_instance c i l steady) all

  abbrev SteadyFit : Core → Type 0
  SteadyFit c = IsSteady ranked charges budget c × EachFit ranked c

  event-fits : (c : Core) (i : ℕ) → i < length c.workers → SteadyFit c →
      SteadyFit (event ranked charges budget c i).0
  event-fits c i l s = (
    steady-event ranked charges budget mill.of_instance c i l s.0,
    each-with (λ j v. AllFit ranked v.piece) (λ j v. AllFit ranked v.piece) c i
        (step ranked charges budget c i).0 (step ranked charges budget c i).1 l s.1 (λ j v a. a)
        (step-fits c i l s.0 (s.1 i l)),
  )

  -- so they do at the end of a run from a state in which they do
  pub run-fits : (c d : Core) (schedule : List ℕ) →
      AllByRecursion (λ (i : ℕ). i < length c.workers) schedule →
      IsSteady ranked charges budget c → EachFit ranked c →
      Rounds ranked charges budget (after_schedule ranked charges budget c schedule) d →
      EachRecord (pieces_of d) (λ entry. fits (length ranked.placed) entry ≡ true)
  run-fits c d schedule numbers steady all rounds =
      let end : SteadyFit d =
      rounds-keep ranked charges budget SteadyFit event-fits
      (after_schedule ranked charges budget c schedule) d rounds
      (schedule-keeps ranked charges budget SteadyFit event-fits c schedule numbers (steady, all))
      in
      each-piece (AllFit ranked) d.workers
      (all-from-places (λ (w : Parts). AllFit ranked w.piece) d.workers no_worker end.1)

-- new workers have no records
pub new-fit : (ranked : RankedOrders) (workers orders loss drawn : ℕ) (paths : List (List ℕ)) →
    EachFit ranked (first_state workers orders loss drawn paths)
new-fit ranked workers orders loss drawn paths i l =
    all-get-or (λ (w : Parts). AllFit ranked w.piece) (new_workers workers orders loss) i no_worker
    (each-new (below workers)) tt
  where
    each-new : (numbers : List ℕ) →
        AllByRecursion (λ (w : Parts). AllFit ranked w.piece)
        (map (new_worker workers orders loss) numbers)
    each-new [] = tt
    each-new (number ∷ numbers) = (tt, each-new numbers)
