-- What each step keeps: no path is lost, none comes from nowhere, and the tickets are the records.
use Rattle.std.proofs.Common.{◌≡◌, ◌<◌, ℕ, List, [], ◌∷◌, ◌++◌, length, Option, Some, None}
use Rattle.std.proofs.Common.{refl, sym, ap, subst, arith}
use Rattle.mill_model.specs.Charges.{ChargeTable}
use Rattle.order_symmetry.specs.Ranked.{RankedOrders}
use Rattle.search_step.specs.Accounts.{DidMaybe, Keeps}
use Rattle.search_step.specs.Moves.{front, last_of, looked, pushed, rested, took, stole, drew, to}
use Rattle.search_step.specs.Parts.{Parts}
use Rattle.search_step.specs.Steps.{IsSafe, Pushes, StepAt, Steps}
use Rattle.search_step.specs.Worker.{WorkerParts, IsSafeWorker}
use Rattle.search_step.specs.declared.event.Event.{Event}
use Rattle.search_step.specs.declared.event.Event.TheVariants.{Took, Stole, Pushed, Refused}
use Rattle.search_step.specs.declared.event.Event.TheVariants.{Drew as DrewEvent, Looked, Published}
use Rattle.search_step.specs.declared.event.Event.TheVariants.{Stopping, Stood}
use Rattle.search_step.specs.declared.parts.Phase.{Phase}
use Rattle.search_step.specs.declared.parts.Phase.TheVariants.{Resting, Taking, Stealing, Holding}
use Rattle.search_step.specs.declared.parts.Phase.TheVariants.{Halting, Ended, Bounding}
use Rattle.search_step.specs.declared.parts.Phase.TheVariants.{Closing as ClosingNow, Publishing}
use Rattle.search_step.specs.declared.parts.Phase.TheVariants.{Pushing}
use Rattle.search_step.specs.declared.parts.Turn.{Turn}
use Rattle.search_step.specs.declared.parts.Turn.TheVariants.{Moved, Drew, Idle, Stopped}
use Rattle.search_step.specs.declared.parts.Turn.TheVariants.{OutOfMemory}
use Rattle.search_step.proofs.KeptByClosing.{close-keeps}
use Rattle.search_step.proofs.KeptByEvent.{KeptBy, carry, waiting-in}
use Rattle.search_step.proofs.KeptByHand.{rest-keeps, take-keeps, steal-keeps, draw-keeps}
use Rattle.search_step.proofs.KeptByHand.{halt-keeps, end-keeps, look-keeps, publish-keeps}
use Rattle.search_step.proofs.KeptByHand.{push-keeps, refusal-keeps}
use Rattle.search_step.proofs.Lasts.{last-or-none}

module _ {H : Type 0} (did : H → Event → H → Type 0) (worker : WorkerParts)
    (is : IsSafeWorker worker) (before after : H) where
  abbrev parts : Parts
  parts = worker.parts

  abbrev Kept : Turn → Parts → Type 0
  Kept turn became =
      Keeps did worker.ranked worker.charges worker.workers worker.number worker.parts before turn
      became after

  with-event : (event : Option Event) (turn : Turn) (became : Parts) →
      DidMaybe did before event after → KeptBy worker event turn became → Kept turn became
  with-event event turn became happened kept = record {
    event = event;
    happened = happened;
    accounts = kept.accounts;
    safe = kept.safe;
    stopped = kept.stopped;
  }

  pushing-keeps : worker.parts.phase ≡ Pushing → (turn : Turn) (became : Parts) →
      Pushes did (last_of worker.parts.waiting) worker.parts before turn became after →
      Kept turn became
  pushing-keeps here turn became step = from worker.parts.waiting refl
    where
      pushes : (path : List ℕ) →
          worker.parts.waiting ≡ front worker.parts.waiting ++ path ∷ [] → (turn : Turn) →
          Pushes did (Some path) worker.parts before turn became after → Kept turn became
      pushes path last OutOfMemory step =
          with-event (Some (Refused path)) OutOfMemory became step.0
          (subst (λ p. KeptBy worker (Some (Refused path)) OutOfMemory p) (sym step.1)
          (refusal-keeps worker is path))
      pushes path last Moved step =
          with-event (Some (Pushed path)) Moved became step.0
          (carry worker is (Some (Pushed path)) Moved became (pushed parts (front parts.waiting))
          step.1 (push-keeps worker is here path last))
      pushes path last Drew step = absurd step
      pushes path last Idle step = absurd step
      pushes path last Stopped step = absurd step

      from : (waiting : List (List ℕ)) → worker.parts.waiting ≡ waiting → Kept turn became
      from [] none =
          (let some : 0 < length parts.waiting = waiting-in worker is Pushing here in
          let empty : length parts.waiting ≡ 0 = ap length none in absurd (omega arith))
      from (path ∷ paths) some =
          (let last = last-or-none parts.waiting path paths some in
          pushes last.0 last.2 turn
          (subst (λ o. Pushes did o parts before turn became after) last.1 step))

  kept-at : (phase : Phase) → worker.parts.phase ≡ phase → (turn : Turn) (became : Parts) →
      StepAt did worker.ranked worker.charges worker.workers worker.number phase worker.parts
      before turn became after → Kept turn became
  kept-at Resting here turn became (standing, happened, same) =
      with-event (Some (Stood standing)) turn became happened
      (carry worker is (Some (Stood standing)) turn became (rested parts standing) same
      (rest-keeps worker is here standing))
  kept-at Taking here turn became (path, happened, tree, same) =
      with-event (Some (Took path)) turn became happened
      (carry worker is (Some (Took path)) turn became (took worker.workers parts path) same
      (take-keeps worker is here path tree))
  kept-at Stealing here turn became (path, happened, tree, same) =
      with-event (Some (Stole parts.victim path)) turn became happened
      (carry worker is (Some (Stole parts.victim path)) turn became
      (stole worker.workers worker.number parts path) same (steal-keeps worker is here path tree))
  kept-at Holding here turn became (draw, happened, same) =
      with-event (Some (DrewEvent draw)) turn became happened
      (carry worker is (Some (DrewEvent draw)) turn became (drew parts draw) same
      (draw-keeps worker is here draw))
  kept-at Halting here turn became (happened, same) =
      with-event (Some Stopping) turn became happened
      (carry worker is (Some Stopping) turn became (to Ended parts, Stopped) same
      (halt-keeps worker is here))
  kept-at Ended here turn became (happened, same) =
      with-event None turn became happened
      (carry worker is None turn became (parts, Stopped) same (end-keeps worker is here))
  kept-at Bounding here turn became (least, happened, same) =
      with-event (Some (Looked least)) turn became happened
      (carry worker is (Some (Looked least)) turn became (looked parts least) same
      (look-keeps worker is here least))
  kept-at ClosingNow here turn became (happened, closes) =
      with-event None turn became happened (close-keeps worker is here turn became closes)
  kept-at Publishing here turn became (least, happened, same) =
      with-event (Some (Published parts.known least)) turn became happened
      (carry worker is (Some (Published parts.known least)) turn became (to Resting parts, Moved)
      same (publish-keeps worker is here least))
  kept-at Pushing here turn became step = pushing-keeps here turn became step

pub steps-keep : {H : Type 0} (did : H → Event → H → Type 0) (ranked : RankedOrders)
    (charges : ChargeTable) (workers number : ℕ) (w : Parts) (before after : H) →
    number < workers → IsSafe ranked charges workers number w → (turn : Turn) (became : Parts) →
    Steps did ranked charges workers number w before turn became after →
    Keeps did ranked charges workers number w before turn became after
steps-keep did ranked charges workers number w before after among safe turn became step =
    let worker : WorkerParts = record {
      ranked = ranked;
      charges = charges;
      number = number;
      workers = workers;
      parts = w;
    } in
    kept-at did worker (record { among = among; safe = safe }) before after
    w.phase refl turn became step
