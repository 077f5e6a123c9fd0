-- What a step keeps, seen from its event: of the hand, a step says no more than that the event
-- happened. Three shapes serve all phases: the worker's paths stay where they are, a path comes to
-- the worker, or the held path is recorded.
use Rattle.std.proofs.Common.{◌≡◌, ◌≢◌, ◌<◌, ℕ, ◌+◌, Bool, true, false, List, [], ◌∷◌, ◌++◌}
use Rattle.std.proofs.Common.{length, Option, Some, None, refl, sym, ap, ◌∙◌, subst, arith}
use Rattle.std.proofs.Common.{length-append}
use Rattle.list_laws.proofs.Tests.{clash}
use Rattle.mill_model.specs.Log.{Task, left_open}
use Rattle.mill_model.specs.declared.closing.Closing.{Closing}
use Rattle.search_step.specs.Accounts.{Accounts, came, went, tickets, in_work}
use Rattle.search_step.specs.Moves.{Moves, hold}
use Rattle.search_step.specs.Parts.{Parts}
use Rattle.search_step.specs.Serving.{IsPathOf}
use Rattle.search_step.specs.Steps.{Becomes, HeldIn, IsSafe, WaitingIn, task_at}
use Rattle.search_step.specs.Worker.{WorkerParts, IsSafeWorker}
use Rattle.search_step.specs.declared.event.Event.{Event}
use Rattle.search_step.specs.declared.parts.Phase.{Phase}
use Rattle.search_step.specs.declared.parts.Phase.TheVariants.{Resting, Taking, Stealing, Holding}
use Rattle.search_step.specs.declared.parts.Phase.TheVariants.{Halting, Ended, Bounding}
use Rattle.search_step.specs.declared.parts.Phase.TheVariants.{Closing as ClosingNow, Publishing}
use Rattle.search_step.specs.declared.parts.Phase.TheVariants.{Pushing}
use Rattle.search_step.specs.declared.parts.Turn.{Turn}
use Rattle.search_step.specs.declared.parts.Turn.TheVariants.{Moved, Stopped}
use Rattle.search_step.proofs.Tally.{same-account, held-account, record-account}

-- what is kept where a step with this event makes these parts of a worker
pub record KeptBy (worker : WorkerParts) (event : Option Event) (turn : Turn) (became : Parts)
    : Type 0 where
  pub accounts : Accounts (task_at worker.ranked worker.charges) worker.parts became event
  pub safe : IsSafe worker.ranked worker.charges worker.workers worker.number became
  pub stopped : turn ≡ Stopped → in_work became.phase ≡ 0

-- the phase in which a victim is asked
abbrev pub is_stealing : Phase → Bool
is_stealing Resting = false
is_stealing Taking = false
is_stealing Stealing = true
is_stealing Holding = false
is_stealing Halting = false
is_stealing Ended = false
is_stealing Bounding = false
is_stealing ClosingNow = false
is_stealing Publishing = false
is_stealing Pushing = false

pub not-stealing : (phase : Phase) → is_stealing phase ≡ false → phase ≡ Stealing → ⊥
not-stealing phase other is = clash (is_stealing phase) (ap is_stealing is) other

pub moved-goes-on : Moved ≡ Stopped → ⊥
moved-goes-on same = cc

-- another worker, where there is one
abbrev pub IsVictim : WorkerParts → ℕ → Type 0
IsVictim worker victim =
    1 < worker.workers → (victim < worker.workers) × (victim ≢ worker.number)

module _ (worker : WorkerParts) (is : IsSafeWorker worker) where
  abbrev parts : Parts
  parts = worker.parts

  abbrev task : Task
  task = task_at worker.ranked worker.charges

  -- what the worker has in its phase

  pub held-in : (phase : Phase) → worker.parts.phase ≡ phase → HeldIn phase worker.parts.held
  held-in phase here = subst (λ p. HeldIn p worker.parts.held) here is.safe.held_in

  pub waiting-in : (phase : Phase) → worker.parts.phase ≡ phase →
      WaitingIn phase worker.parts.waiting
  waiting-in phase here = subst (λ p. WaitingIn p worker.parts.waiting) here is.safe.waiting_in

  pub work-in : (phase : Phase) → worker.parts.phase ≡ phase →
      in_work worker.parts.phase ≡ in_work phase
  work-in phase here = ap in_work here

  -- what is kept of a step is kept of what becomes of the worker
  pub carry : (event : Option Event) (turn : Turn) (became : Parts) (moves : Moves) →
      Becomes became turn moves → KeptBy worker event moves.1 moves.0 →
      KeptBy worker event turn became
  carry event turn became moves same kept =
      subst (λ p. KeptBy worker event turn p) (sym same.0)
      (subst (λ t. KeptBy worker event t moves.0) (sym same.1) kept)

  -- nothing changes
  pub stays : (event : Option Event) (turn : Turn) → went event ≡ [] → came event ≡ [] →
      tickets event ≡ 0 → (turn ≡ Stopped → in_work worker.parts.phase ≡ 0) →
      KeptBy worker event turn worker.parts
  stays event turn none_went none_came none_drawn stopped = record {
    accounts = record {
      paths = λ path. rw (none_went, none_came)
          (same-account task parts parts path refl refl refl);
      records = omega (arith, none_drawn);
    };
    safe = is.safe;
    stopped = stopped;
  }

  -- the paths stay where they are; the phase, the known loss and the victim may change
  pub changes : (event : Option Event) (turn : Turn) (phase : Phase) (known victim : ℕ) →
      went event ≡ [] → came event ≡ [] →
      in_work phase ≡ in_work worker.parts.phase + tickets event →
      (turn ≡ Stopped → in_work phase ≡ 0) → HeldIn phase worker.parts.held →
      WaitingIn phase worker.parts.waiting → (phase ≡ Stealing → 1 < worker.workers) →
      IsVictim worker victim → KeptBy worker event turn
      (record worker.parts { phase = phase; known = known; victim = victim })
  changes event turn phase known victim none_went none_came drawn stopped held waits several other =
      record {
        accounts = record {
          paths = λ path. rw (none_went, none_came) (same-account task parts
              (record parts { phase = phase; known = known; victim = victim }) path refl refl refl);
          records = omega (arith, drawn);
        };
        safe = record {
          held = is.safe.held;
          waiting = is.safe.waiting;
          victim = λ e. other (several e);
          next = other;
          held_in = held;
          waiting_in = waits;
          orders = is.safe.orders;
          stored = is.safe.stored;
          room = is.safe.room;
        };
        stopped = stopped;
      }

  -- a path comes to the worker, which holds it from then on
  pub takes-in : (event : Option Event) (path : List ℕ) (victim : ℕ) → went event ≡ [] →
      came event ≡ path ∷ [] → tickets event ≡ 0 → in_work worker.parts.phase ≡ 0 →
      worker.parts.held ≡ None → worker.parts.waiting ≡ [] → IsPathOf worker.ranked path →
      IsVictim worker victim →
      KeptBy worker event Moved (hold path (record worker.parts { victim = victim }))
  takes-in event path victim none_went one_came none_drawn idle held waits tree other = record {
    accounts = record {
      paths = λ x. rw (none_went, one_came) (held-account task parts
          (hold path (record parts { victim = victim })) x path refl held refl refl);
      records = omega (arith, none_drawn, idle);
    };
    safe = record {
      held = λ p e. subst (IsPathOf worker.ranked) (some-same p e) tree;
      waiting = is.safe.waiting;
      victim = λ e. absurd (not-stealing Holding refl e);
      next = other;
      held_in = (path, refl);
      waiting_in = waits;
      orders = is.safe.orders;
      stored = is.safe.stored;
      room = is.safe.room;
    };
    stopped = λ e. absurd (moved-goes-on e);
  }
    where
      some-same : (p : List ℕ) → Some path ≡ Some p → path ≡ p
      some-same p e = cc

  -- the held path is recorded, and what its record leaves open waits
  pub records : (path : List ℕ) (closing : Closing) (became : Parts) →
      worker.parts.phase ≡ ClosingNow → worker.parts.held ≡ Some path →
      became.piece ≡ worker.parts.piece ++ record { path = path; closing = closing } ∷ [] →
      became.held ≡ None →
      became.waiting ≡ left_open (task_at worker.ranked worker.charges) path closing →
      in_work became.phase ≡ 0 →
      IsSafe worker.ranked worker.charges worker.workers worker.number became →
      KeptBy worker None Moved became
  records path closing became here held piece none opened done safe = record {
    accounts = record {
      paths = λ x. record-account task parts became x path closing piece held
          (waiting-in ClosingNow here) none opened;
      records = (let more : length became.piece ≡ length parts.piece + 1 =
          ap length piece ∙ length-append parts.piece
          (record { path = path; closing = closing } ∷ []) in
          let drawn : in_work parts.phase ≡ 1 = work-in ClosingNow here in omega (arith, done));
    };
    safe = safe;
    stopped = λ e. absurd (moved-goes-on e);
  }
