-- What a step keeps that calls the hand: by its phase and the hand's answer. No path is recorded in
-- these phases; one may come from the hand, or go to it.
use Rattle.std.proofs.Common.{◌≡◌, ℕ, ◌+◌, Bool, true, false, cond, ltb, List, [], ◌∷◌, ◌++◌}
use Rattle.std.proofs.Common.{min, Option, Some, None, refl, sym, subst, arith, ltb-true}
use Rattle.std.specs.List.{AllByRecursion}
use Rattle.mill_model.specs.declared.limits.Draw.{Draw}
use Rattle.mill_model.specs.declared.limits.Draw.TheVariants.{Ticket, Spent}
use Rattle.mill_model.specs.declared.limits.Standing.{Standing}
use Rattle.mill_model.specs.declared.limits.Standing.TheVariants.{Going, Halted, Drained}
use Rattle.search_step.specs.Accounts.{in_work}
use Rattle.search_step.specs.Moves.{to, rested, took, stole, drew, looked, pushed}
use Rattle.search_step.specs.Moves.{front, next_victim, pushing_or_resting}
use Rattle.search_step.specs.Parts.{Parts}
use Rattle.search_step.specs.Serving.{IsPathOf}
use Rattle.search_step.specs.Steps.{HeldIn, IsOfTree, WaitingIn, task_at}
use Rattle.search_step.specs.Worker.{WorkerParts, IsSafeWorker}
use Rattle.search_step.specs.declared.event.Event.TheVariants.{Took, Stole, Pushed, Refused}
use Rattle.search_step.specs.declared.event.Event.TheVariants.{Drew as DrewEvent, Looked, Published}
use Rattle.search_step.specs.declared.event.Event.TheVariants.{Stopping, Stood}
use Rattle.search_step.specs.declared.parts.Phase.TheVariants.{Resting, Taking, Stealing, Holding}
use Rattle.search_step.specs.declared.parts.Phase.TheVariants.{Halting, Ended, Bounding}
use Rattle.search_step.specs.declared.parts.Phase.TheVariants.{Closing as ClosingNow, Publishing}
use Rattle.search_step.specs.declared.parts.Phase.TheVariants.{Pushing}
use Rattle.search_step.specs.declared.parts.Turn.TheVariants.{Moved, Drew, Idle, Stopped}
use Rattle.search_step.specs.declared.parts.Turn.TheVariants.{OutOfMemory}
use Rattle.search_step.proofs.Branches.{next-victim}
use Rattle.search_step.proofs.KeptByEvent.{KeptBy, IsVictim, is_stealing, not-stealing}
use Rattle.search_step.proofs.KeptByEvent.{moved-goes-on, held-in, waiting-in, work-in}
use Rattle.search_step.proofs.KeptByEvent.{stays, changes, takes-in}
use Rattle.search_step.proofs.Tally.{pushed-account}

drew-goes-on : Drew ≡ Stopped → ⊥
drew-goes-on same = cc

memory-goes-on : OutOfMemory ≡ Stopped → ⊥
memory-goes-on same = cc

-- a worker with children that wait holds no path and steals from none

pub opened-waiting : (paths : List (List ℕ)) → WaitingIn (pushing_or_resting paths) paths
opened-waiting [] = refl
opened-waiting (path ∷ paths) = omega arith

pub opened-held : (paths : List (List ℕ)) → HeldIn (pushing_or_resting paths) None
opened-held [] = refl
opened-held (path ∷ paths) = refl

pub opened-work : (paths : List (List ℕ)) → in_work (pushing_or_resting paths) ≡ 0
opened-work [] = refl
opened-work (path ∷ paths) = refl

pub opened-stealing : (paths : List (List ℕ)) → is_stealing (pushing_or_resting paths) ≡ false
opened-stealing [] = refl
opened-stealing (path ∷ paths) = refl

all-front : (P : List ℕ → Type 0) (xs : List (List ℕ)) (last : List ℕ) →
    AllByRecursion P (xs ++ last ∷ []) → AllByRecursion P xs
all-front P [] last all = tt
all-front P (x ∷ xs) last all = (all.0, all-front P xs last all.1)

module _ (worker : WorkerParts) (is : IsSafeWorker worker) where
  abbrev parts : Parts
  parts = worker.parts

  -- from a phase with no ticket whose path isn't recorded yet
  no-ticket : in_work worker.parts.phase ≡ 0 → 0 ≡ in_work worker.parts.phase + 0
  no-ticket idle = omega arith

  another : IsVictim worker (next_victim worker.workers worker.number worker.parts.victim)
  another several = next-victim worker.workers worker.number parts.victim is.among several

  pub rest-keeps : worker.parts.phase ≡ Resting → (standing : Standing) →
      KeptBy worker (Some (Stood standing)) (rested worker.parts standing).1
      (rested worker.parts standing).0
  rest-keeps here Going =
      changes worker is (Some (Stood Going)) Moved Taking parts.known parts.victim refl refl
      (no-ticket (work-in worker is Resting here)) (λ e. refl) (held-in worker is Resting here)
      (waiting-in worker is Resting here) (λ e. absurd (not-stealing Taking refl e)) is.safe.next
  rest-keeps here Halted =
      stays worker is (Some (Stood Halted)) Stopped refl refl refl
      (λ e. work-in worker is Resting here)
  rest-keeps here Drained =
      stays worker is (Some (Stood Drained)) Stopped refl refl refl
      (λ e. work-in worker is Resting here)

  pub take-keeps : worker.parts.phase ≡ Taking → (path : Option (List ℕ)) →
      IsOfTree worker.ranked path →
      KeptBy worker (Some (Took path)) (took worker.workers worker.parts path).1
      (took worker.workers worker.parts path).0
  take-keeps here (Some path) tree =
      takes-in worker is (Some (Took (Some path))) path parts.victim refl refl refl
      (work-in worker is Taking here) (held-in worker is Taking here)
      (waiting-in worker is Taking here) tree is.safe.next
  take-keeps here None tree = nothing (ltb 1 worker.workers) refl
    where
      nothing : (several : Bool) → ltb 1 worker.workers ≡ several →
          KeptBy worker (Some (Took None)) Idle (to (cond several Stealing Resting) worker.parts)
      nothing true several =
          changes worker is (Some (Took None)) Idle Stealing parts.known parts.victim refl refl
          (no-ticket (work-in worker is Taking here)) (λ e. refl) (held-in worker is Taking here)
          (waiting-in worker is Taking here) (λ e. ltb-true 1 worker.workers several) is.safe.next
      nothing false several =
          changes worker is (Some (Took None)) Idle Resting parts.known parts.victim refl refl
          (no-ticket (work-in worker is Taking here)) (λ e. refl) (held-in worker is Taking here)
          (waiting-in worker is Taking here) (λ e. absurd (not-stealing Resting refl e))
          is.safe.next

  pub steal-keeps : worker.parts.phase ≡ Stealing → (path : Option (List ℕ)) →
      IsOfTree worker.ranked path →
      KeptBy worker (Some (Stole worker.parts.victim path))
      (stole worker.workers worker.number worker.parts path).1
      (stole worker.workers worker.number worker.parts path).0
  steal-keeps here (Some path) tree =
      takes-in worker is (Some (Stole parts.victim (Some path))) path
      (next_victim worker.workers worker.number parts.victim) refl refl refl
      (work-in worker is Stealing here) (held-in worker is Stealing here)
      (waiting-in worker is Stealing here) tree another
  steal-keeps here None tree =
      changes worker is (Some (Stole parts.victim None)) Idle Resting parts.known
      (next_victim worker.workers worker.number parts.victim) refl refl
      (no-ticket (work-in worker is Stealing here)) (λ e. refl) (held-in worker is Stealing here)
      (waiting-in worker is Stealing here) (λ e. absurd (not-stealing Resting refl e)) another

  pub draw-keeps : worker.parts.phase ≡ Holding → (draw : Draw) →
      KeptBy worker (Some (DrewEvent draw)) (drew worker.parts draw).1 (drew worker.parts draw).0
  draw-keeps here (Ticket t) =
      changes worker is (Some (DrewEvent (Ticket t))) Drew Bounding parts.known parts.victim
      refl refl (let idle : in_work parts.phase ≡ 0 = work-in worker is Holding here in omega arith)
      (λ e. absurd (drew-goes-on e)) (held-in worker is Holding here)
      (waiting-in worker is Holding here) (λ e. absurd (not-stealing Bounding refl e)) is.safe.next
  draw-keeps here (Spent t) =
      changes worker is (Some (DrewEvent (Spent t))) Moved Halting parts.known parts.victim refl
      refl (no-ticket (work-in worker is Holding here)) (λ e. refl) (held-in worker is Holding here)
      (waiting-in worker is Holding here) (λ e. absurd (not-stealing Halting refl e)) is.safe.next

  pub halt-keeps : worker.parts.phase ≡ Halting →
      KeptBy worker (Some Stopping) Stopped (to Ended worker.parts)
  halt-keeps here =
      changes worker is (Some Stopping) Stopped Ended parts.known parts.victim refl refl
      (no-ticket (work-in worker is Halting here)) (λ e. refl) (held-in worker is Halting here)
      (waiting-in worker is Halting here) (λ e. absurd (not-stealing Ended refl e)) is.safe.next

  pub end-keeps : worker.parts.phase ≡ Ended → KeptBy worker None Stopped worker.parts
  end-keeps here = stays worker is None Stopped refl refl refl (λ e. work-in worker is Ended here)

  pub look-keeps : worker.parts.phase ≡ Bounding → (least : ℕ) →
      KeptBy worker (Some (Looked least)) Moved (looked worker.parts least).0
  look-keeps here least =
      changes worker is (Some (Looked least)) Moved ClosingNow (min parts.known least)
      parts.victim refl refl
      (let drawn : in_work parts.phase ≡ 1 = work-in worker is Bounding here in omega arith)
      (λ e. absurd (moved-goes-on e)) (held-in worker is Bounding here)
      (waiting-in worker is Bounding here) (λ e. absurd (not-stealing ClosingNow refl e))
      is.safe.next

  pub publish-keeps : worker.parts.phase ≡ Publishing → (before : ℕ) →
      KeptBy worker (Some (Published worker.parts.known before)) Moved (to Resting worker.parts)
  publish-keeps here before =
      changes worker is (Some (Published parts.known before)) Moved Resting parts.known
      parts.victim refl refl (no-ticket (work-in worker is Publishing here)) (λ e. refl)
      (held-in worker is Publishing here) (waiting-in worker is Publishing here)
      (λ e. absurd (not-stealing Resting refl e)) is.safe.next

  -- the last waiting child is pushed, or comes back

  pub push-keeps : worker.parts.phase ≡ Pushing → (path : List ℕ) →
      worker.parts.waiting ≡ front worker.parts.waiting ++ path ∷ [] →
      KeptBy worker (Some (Pushed path)) Moved (pushed worker.parts (front worker.parts.waiting)).0
  push-keeps here path last =
      let left : List (List ℕ) = front worker.parts.waiting in record {
        accounts = record {
          paths = λ x. pushed-account (task_at worker.ranked worker.charges) parts
              (pushed parts (front worker.parts.waiting)).0 x path refl refl last;
          records = (let before : in_work parts.phase ≡ 0 = work-in worker is Pushing here in
              let after : in_work (pushing_or_resting (front worker.parts.waiting)) ≡ 0 =
              opened-work left in omega arith);
        };
        safe = record {
          held = is.safe.held;
          waiting = all-front (IsPathOf worker.ranked) left path
              (subst (AllByRecursion (IsPathOf worker.ranked)) last is.safe.waiting);
          victim = λ e. absurd (not-stealing (pushing_or_resting left) (opened-stealing left) e);
          next = is.safe.next;
          held_in = subst (λ o. HeldIn (pushing_or_resting left) o)
              (sym (held-in worker is Pushing here)) (opened-held left);
          waiting_in = opened-waiting left;
          orders = is.safe.orders;
          stored = is.safe.stored;
          room = is.safe.room;
        };
        stopped = λ e. absurd (moved-goes-on e);
      }

  pub refusal-keeps : (path : List ℕ) →
      KeptBy worker (Some (Refused path)) OutOfMemory worker.parts
  refusal-keeps path =
      stays worker is (Some (Refused path)) OutOfMemory refl refl refl
      (λ e. absurd (memory-goes-on e))

  pub memory-keeps : KeptBy worker None OutOfMemory worker.parts
  memory-keeps =
      stays worker is None OutOfMemory refl refl refl (λ e. absurd (memory-goes-on e))
