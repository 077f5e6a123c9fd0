-- The laws of the machine.
use Rattle.std.proofs.Common.{ℕ, zero, suc, ◌<◌, ◌≡◌, ◌⊎◌, inl, inr, Bool, true}
use Rattle.std.proofs.Common.{false, [], ◌∷◌, length, set, refl, sym, ap, ◌∙◌, subst, arith}
use Rattle.std.specs.List.{AllByRecursion}
use Rattle.list_laws.proofs.Tests.{either, clash}
use Rattle.mill_model.specs.Charges.{ChargeTable}
use Rattle.mill_model.specs.Conserved.{joined, IsConserved}
use Rattle.order_symmetry.specs.Ranked.{RankedOrders, IsRanked}
use Rattle.search_step.specs.Steps.{task_at}
use Rattle.search_step.specs.declared.parts.Turn.TheVariants.{OutOfMemory}
use Rattle.core_machine.proofs.Drained.{left-where-spent}
use Rattle.core_machine.proofs.Falls.{round-lowers}
use Rattle.core_machine.proofs.InTree.{root-in-tree, unclosed-in-tree}
use Rattle.core_machine.proofs.Last.{run-keeps}
use Rattle.core_machine.proofs.Promise.{best-is-kept, best-loses, conserved-with, counted-with}
use Rattle.core_machine.proofs.Promise.{least-at-most, pieces-anew, pieces-thrifty, sound-with}
use Rattle.core_machine.proofs.Runs.{schedule-keeps, whole-round-keeps}
use Rattle.core_machine.proofs.Starts.{steady-first, workers-count}
use Rattle.core_machine.proofs.Steady.{event-is-step, queue-at, steady-event}
use Rattle.core_machine.proofs.Steps.{step-made}
use Rattle.core_machine.proofs.Stops.{last-stops}
use Rattle.core_machine.specs.Core.{Core, Last, More, Rounds, after_schedule, event}
use Rattle.core_machine.specs.Core.{start_state, step, whole_round, worker}
use Rattle.core_machine.specs.Ends.{measure}
use Rattle.core_machine.specs.Laws.{CoreRunsKeepTheirPromise, EachRunEnds, EventsAreSteps}
use Rattle.core_machine.specs.Laws.{OneLastState, RunsKeepTheirPromise, StepsAreEvents}
use Rattle.core_machine.specs.Steady.{IsSteady}

pub events-are-steps : EventsAreSteps
events-are-steps ranked charges budget c number ranks steady l =
    event-is-step ranked charges budget ranks c number l steady

pub steps-are-events : StepsAreEvents
steps-are-events ranked charges budget c number turn next after ranks steady l steps roomy =
    let safe = steady.safe number l in
    go (step-made ranked charges budget ranks c number (worker c number) safe.held_in safe.held
    (λ j. queue-at ranked charges budget c number (worker c number) steady.queued safe.waiting j)
    turn next after steps)
  where
    go : ((after ≡ (step ranked charges budget c number).0)
        × ((next ≡ (step ranked charges budget c number).1.0)
        × (turn ≡ (step ranked charges budget c number).1.1)))
        ⊎ ((turn ≡ OutOfMemory) × (after ≡ c.shared) × (next ≡ worker c number)) →
        event ranked charges budget c number
        ≡ (record { shared = after; workers = set c.workers number next }, turn)
    go (inl made) =
        let s = sym made.0 in
        let w = sym made.1.0 in
        let t = sym made.1.1 in
        λ i. (record { shared = s i; workers = set c.workers number (w i) }, t i)
    go (inr none) = absurd (roomy none.0)

module _ (ranked : RankedOrders) (charges : ChargeTable) (budget : ℕ) where
  abbrev round-of : Core → Core × Bool
  round-of c = whole_round ranked charges budget c

  answered : (c : Core) (b : Bool) → (round-of c).1 ≡ b → round-of c ≡ ((round-of c).0, b)
  answered c b e = ap (λ (s : Bool). ((round-of c).0, s)) e

  -- the measure bounds the rounds
  rounds-to-end : IsRanked ranked → (bound : ℕ) (c : Core) →
      measure (length ranked.placed) budget c < bound → IsSteady ranked charges budget c →
      (last : Core) × Rounds ranked charges budget c last
  rounds-to-end ranks zero c l steady = absurd (omega arith)
  rounds-to-end ranks (suc bound) c l steady =
      go (either (round-of c).1) (λ e. rounds-to-end ranks bound (round-of c).0
      (omega (
        arith,
        l,
        round-lowers ranked charges budget ranks c (round-of c).0 steady
            (answered c false e),
      ))
      (whole-round-keeps ranked charges budget (IsSteady ranked charges budget)
      (steady-event ranked charges budget ranks) c (round-of c).0 false (answered c false e)
      steady))
    where
      go : ((round-of c).1 ≡ true) ⊎ ((round-of c).1 ≡ false) →
          ((round-of c).1 ≡ false →
          (last : Core) × Rounds ranked charges budget (round-of c).0 last) →
          (last : Core) × Rounds ranked charges budget c last
      go (inl e) later = ((round-of c).0, Last c (round-of c).0 (answered c true e))
      go (inr e) later =
          let r = later e in (r.0, More c (round-of c).0 r.0 (answered c false e) r.1)

  one-end : (c d e : Core) → Rounds ranked charges budget c d → Rounds ranked charges budget c e →
      d ≡ e
  one-end c d e (Last _ _ p) (Last _ _ q) = ap (λ (r : Core × Bool). r.0) (sym p ∙ q)
  one-end c d e (Last _ _ p) (More _ m _ q r) =
      absurd (clash (round-of c).1 (ap (λ (r : Core × Bool). r.1) p)
      (ap (λ (r : Core × Bool). r.1) q))
  one-end c d e (More _ m _ p r) (Last _ _ q) =
      absurd (clash (round-of c).1 (ap (λ (r : Core × Bool). r.1) q)
      (ap (λ (r : Core × Bool). r.1) p))
  one-end c d e (More _ m _ p r) (More _ n _ q s) =
      one-end m d e r (subst (λ (x : Core). Rounds ranked charges budget x e)
      (ap (λ (r : Core × Bool). r.0) (sym q ∙ p)) s)

pub each-run-ends : EachRunEnds
each-run-ends ranked charges budget workers loss schedule ranks some few numbers =
    let first : Core = start_state ranked workers loss in
    let steady : IsSteady ranked charges budget first =
    steady-first ranked charges workers (length ranked.placed) loss 0 ([] ∷ []) budget some few
    refl (omega arith) (root-in-tree ranked, tt) in
    let last : Core = after_schedule ranked charges budget first schedule in
    rounds-to-end ranked charges budget ranks (suc (measure (length ranked.placed) budget last))
    last (omega arith)
    (schedule-keeps ranked charges budget (IsSteady ranked charges budget)
    (steady-event ranked charges budget ranks) first schedule
    (subst (λ n. AllByRecursion (λ i. i < n) schedule)
    (sym (workers-count ranked charges workers (length ranked.placed) loss)) numbers) steady)

pub one-last-state : OneLastState
one-last-state ranked charges budget workers loss schedule last other a b =
    one-end ranked charges budget
    (after_schedule ranked charges budget (start_state ranked workers loss) schedule) last other a
    b

pub runs-keep-their-promise : RunsKeepTheirPromise
runs-keep-their-promise ranked charges budget workers start drawn schedule given owed last fit some
    few within numbers conserved each count rounds =
    let before : ℕ = length (joined given) in
    let end =
    run-keeps ranked charges budget fit start before owed workers drawn schedule last some few
    within count (unclosed-in-tree ranked charges given owed conserved) numbers rounds in
    let stop = last-stops ranked charges start budget before owed last end in
    record {
      conserved = conserved-with ranked charges start budget before owed last stop given conserved;
      each_sound =
          sound-with ranked charges start budget before owed last stop given conserved each;
      at_most = least-at-most ranked charges start budget before owed last stop;
      best = λ first kept same. (
        best-is-kept ranked charges start budget before owed last stop first kept,
        best-loses ranked charges start budget before owed last stop first same,
      );
      count = counted-with ranked charges start budget before owed last stop given conserved refl;
      left = left-where-spent budget last end.ends;
      thrifty = pieces-thrifty ranked charges start budget before owed last stop;
      anew = pieces-anew ranked charges start budget before owed last stop;
    }

-- no piece, and the empty path to close
pub nothing-given : (ranked : RankedOrders) (charges : ChargeTable) →
    IsConserved (task_at ranked charges) [] ([] ∷ [])
nothing-given ranked charges = record { paths = λ x. refl; named = tt }

pub core-runs-keep-their-promise : CoreRunsKeepTheirPromise
core-runs-keep-their-promise ranked charges budget workers start schedule last fit some few numbers
    rounds =
    runs-keep-their-promise ranked charges budget workers start 0 schedule [] ([] ∷ []) last fit
    some few (omega arith) numbers (nothing-given ranked charges) tt (omega arith) rounds
