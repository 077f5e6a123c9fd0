-- A step of a worker over the plain hand is an event of the machine. The hand answers as the
-- machine does, as long as the number of tickets is below the greatest of 64 bits.
use Rattle.std.proofs.Common.{ℕ, ◌+◌, ◌-◌, ◌^◌, ◌≡◌, ◌<◌, inl, inr, min, List}
use Rattle.std.proofs.Common.{length, set, get_or, Option, Some, None, refl, sym, ap}
use Rattle.std.proofs.Common.{◌∙◌, subst, arith}
use Rattle.std.specs.List.{AllByRecursion}
use Rattle.mill_model.specs.Charges.{ChargeTable}
use Rattle.order_symmetry.specs.Ranked.{RankedOrders, IsRanked}
use Rattle.search_step.specs.Accounts.{DidMaybe}
use Rattle.search_step.specs.Parts.{Parts}
use Rattle.search_step.specs.Serving.{IsPathOf}
use Rattle.search_step.specs.Steps.{Steps, IsSafe}
use Rattle.search_step.specs.Worker.{WorkerParts}
use Rattle.search_step.specs.declared.event.Event.{Event}
use Rattle.search_step.specs.declared.event.Event.TheVariants.{Took, Stole, Pushed, Refused}
use Rattle.search_step.specs.declared.event.Event.TheVariants.{Drew as DrewEvent, Looked, Published}
use Rattle.search_step.specs.declared.event.Event.TheVariants.{Stopping, Stood}
use Rattle.search_step.specs.declared.parts.Turn.{Turn}
use Rattle.search_step.specs.declared.parts.Turn.TheVariants.{Moved, Drew, Idle, Stopped}
use Rattle.search_step.specs.declared.parts.Turn.TheVariants.{OutOfMemory}
use Rattle.core_machine.specs.Calls.{called}
use Rattle.core_machine.specs.Core.{Core, Shared, any_busy, deque, event, with_draw}
use Rattle.core_machine.specs.Core.{step_in, with_worker, worker}
use Rattle.core_machine.proofs.Steps.{step-made, steps-seen}
use Rattle.core_replay.specs.Crew.{Goes, parts_of}
use Rattle.core_replay.specs.Plain.{Plain, plain_did, serving, sharing, with_ticket}
use Rattle.core_replay.proofs.Members.{parts-at}

-- what the calls of a worker don't change of its hand
pub record SameHand (h h' : Plain) : Type 0 where
  pub ranked : h'.ranked ≡ h.ranked
  pub budget : h'.budget ≡ h.budget
  pub number : h'.number ≡ h.number
  pub workers : h'.workers ≡ h.workers

itself : (h : Plain) → SameHand h h
itself h = record { ranked = refl; budget = refl; number = refl; workers = refl }

shared-anew : (h h' : Plain) (s : Shared) → h' ≡ sharing h s → SameHand h h'
shared-anew h h' s e =
    subst (SameHand h) (sym e)
    (record { ranked = refl; budget = refl; number = refl; workers = refl })

unchanged : (h h' : Plain) → h' ≡ h → SameHand h h'
unchanged h h' e = subst (SameHand h) (sym e) (itself h)

pub same-hand : (h h' : Plain) (e : Option Event) → DidMaybe plain_did h e h' → SameHand h h'
same-hand h h' None d = unchanged h h' d
same-hand h h' (Some (Took path)) d = shared-anew h h' _ d.1
same-hand h h' (Some (Stole victim path)) d = shared-anew h h' _ d.1
same-hand h h' (Some (Pushed path)) d = shared-anew h h' _ d
same-hand h h' (Some (Refused path)) d = unchanged h h' d
same-hand h h' (Some (DrewEvent draw)) d = shared-anew h h' _ d.1
same-hand h h' (Some (Looked least)) d = unchanged h h' d.1
same-hand h h' (Some (Published loss before)) d = shared-anew h h' _ d.1
same-hand h h' (Some Stopping) d = shared-anew h h' _ d
same-hand h h' (Some (Stood answer)) d = unchanged h h' d.1

-- what the hand did, seen as what the machine's worker calls
module _ (h h' : Plain) (few : h.shared.drawn + 1 < 2 ^ 64) where
  seen : {s : Shared} → h' ≡ sharing h s → h'.shared ≡ s
  seen e = ap (λ (v : Plain). v.shared) e

  still : h' ≡ h → h'.shared ≡ h.shared
  still e = ap (λ (v : Plain). v.shared) e

  one-more : with_ticket h.shared ≡ with_draw h.shared
  one-more =
      let e : min (h.shared.drawn + 1) (2 ^ 64 - 1) ≡ h.shared.drawn + 1 = omega (arith, few) in
      ap (λ (n : ℕ). record h.shared { drawn = n }) e

  pub calls-alike : (e : Event) → plain_did h e h' →
      called h.budget h.number h.busy h.shared e h'.shared
  calls-alike (Took path) d = (d.0, seen d.1)
  calls-alike (Stole victim path) d = (d.0, seen d.1)
  calls-alike (Pushed path) d = seen d
  calls-alike (Refused path) d = still d
  calls-alike (DrewEvent draw) d = (d.0, seen d.1 ∙ one-more)
  calls-alike (Looked least) d = (d.0, still d.1)
  calls-alike (Published loss before) d = (d.0, seen d.1)
  calls-alike Stopping d = seen d
  calls-alike (Stood answer) d = (d.0, still d.1)

goes : (turn : Turn) (next : Core × Turn) (c : Core) → c ≡ next.0 → turn ≡ next.1 →
    Goes turn next c
goes Moved next c e q = (e, q)
goes Drew next c e q = (e, q)
goes Idle next c e q = (e, q)
goes Stopped next c e q = (e, q)
goes OutOfMemory next c e q = tt

memory-goes : (turn : Turn) (next : Core × Turn) (c : Core) → turn ≡ OutOfMemory →
    Goes turn next c
memory-goes turn next c e = subst (λ t. Goes t next c) (sym e) tt

-- A step of a member of a crew, which its hand serves.
module _ (ranked : RankedOrders) (charges : ChargeTable) (ranks : IsRanked ranked) (hand : Plain)
    (ws : List WorkerParts) (number : ℕ) (within : number < length ws)
    (few : hand.shared.drawn + 1 < 2 ^ 64) (w : WorkerParts) (at : w ≡ get_or ws number w)
    (safe : IsSafe ranked charges (length ws) number w.parts)
    (queued : (j : ℕ) → AllByRecursion (IsPathOf ranked) (deque hand.shared j)) where
  abbrev core : Core
  core = record { shared = hand.shared; workers = parts_of ws }

  abbrev served : Plain
  served = serving number (any_busy (parts_of ws)) hand

  there : worker core number ≡ w.parts
  there = parts-at ws number w within ∙ ap (λ (v : WorkerParts). v.parts) (sym at)

  made : (turn : Turn) (w' : Parts) (s' : Shared) →
      ((s' ≡ (step_in ranked charges hand.budget w.parts.phase core number w.parts).0)
      × (w' ≡ (step_in ranked charges hand.budget w.parts.phase core number w.parts).1.0)
      × (turn ≡ (step_in ranked charges hand.budget w.parts.phase core number w.parts).1.1)) →
      Goes turn (event ranked charges hand.budget core number)
      (record { shared = s'; workers = set (parts_of ws) number w' })
  made turn w' s' e =
      subst (λ (v : Parts). Goes turn
      (with_worker core number (step_in ranked charges hand.budget v.phase core number v).0
      (step_in ranked charges hand.budget v.phase core number v).1)
      (record { shared = s'; workers = set (parts_of ws) number w' })) (sym there)
      (goes turn _ _ (ap (λ (s : Shared).
      record { shared = s; workers = set (parts_of ws) number w' }) e.0
      ∙ ap (λ (v : Parts). record {
        shared = (step_in ranked charges hand.budget w.parts.phase core number w.parts).0;
        workers = set (parts_of ws) number v;
      }) e.1) e.2)

  pub step-goes : (turn : Turn) (w' : WorkerParts) (hand' : Plain) →
      Steps plain_did ranked charges (length (parts_of ws)) number w.parts served turn w'.parts
      hand' →
      Goes turn (event ranked charges hand.budget core number)
      (record { shared = hand'.shared; workers = set (parts_of ws) number w'.parts })
  step-goes turn w' hand' b =
      elim (step-made ranked charges hand.budget ranks core number w.parts safe.held_in safe.held
      queued turn w'.parts hand'.shared
      (steps-seen plain_did (called hand.budget number (any_busy (parts_of ws)))
      (λ (h : Plain). h.shared) served hand' (calls-alike served hand' few) ranked charges
      (length (parts_of ws)) number w.parts w'.parts turn b)) [
        | inl e ↦ made turn w'.parts hand'.shared (e.0, e.1.0, e.1.1)
        | inr e ↦ memory-goes turn _ _ e.0
      ]
