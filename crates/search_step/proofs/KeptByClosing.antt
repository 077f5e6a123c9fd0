-- What a closing keeps: the held path is recorded once, and what its record leaves open waits. Only
-- a split leaves something open; its children are in the tree, and its note, if there is one, has
-- the live key of its path.
use Rattle.std.proofs.Common.{◌≡◌, ◌≢◌, ℕ, Bool, true, false, cond, List, [], ◌∷◌, ◌++◌}
use Rattle.std.proofs.Common.{Option, Some, None, refl, sym, ◌∙◌, subst}
use Rattle.mill_model.specs.Log.{Task, left_open}
use Rattle.mill_model.specs.Tree.{children}
use Rattle.mill_model.specs.declared.closing.Closing.{Closing}
use Rattle.mill_model.specs.declared.closing.Closing.TheVariants.{Split, Leaf, Priced, Dominated}
use Rattle.mill_model.specs.declared.plan.Start.{Start}
use Rattle.search_step.specs.Accounts.{in_work}
use Rattle.search_step.specs.Moves.{closed, commits, exceeds, first_prices, found_at, is_leaf}
use Rattle.search_step.specs.Moves.{noted, pushing_or_resting, second_prices, starts, verdict}
use Rattle.search_step.specs.Moves.{verdict_inner, verdict_leaf, verdict_open}
use Rattle.search_step.specs.Parts.{Parts}
use Rattle.search_step.specs.Steps.{AreOf, Becomes, BecomesOrStays, Closes, HeldIn, IsNotedOf}
use Rattle.search_step.specs.Steps.{WaitingIn, task_at}
use Rattle.search_step.specs.Worker.{WorkerParts, IsSafeWorker}
use Rattle.search_step.specs.declared.parts.Phase.{Phase}
use Rattle.search_step.specs.declared.parts.Phase.TheVariants.{Resting, Publishing}
use Rattle.search_step.specs.declared.parts.Phase.TheVariants.{Closing as ClosingNow}
use Rattle.search_step.specs.declared.parts.Turn.{Turn}
use Rattle.search_step.specs.declared.parts.Turn.TheVariants.{Moved, Drew, Idle, Stopped}
use Rattle.search_step.specs.declared.parts.Turn.TheVariants.{OutOfMemory}
use Rattle.search_step.specs.declared.parts.Verdict.TheVariants.{Better, Plain, ByPrices, Open}
use Rattle.split_tree.specs.Keys.{Key, IsLiveKey}
use Rattle.search_step.proofs.Branches.{children-in-tree}
use Rattle.search_step.proofs.KeptByEvent.{KeptBy, carry, held-in, is_stealing, not-stealing}
use Rattle.search_step.proofs.KeptByEvent.{records, waiting-in}
use Rattle.search_step.proofs.KeptByHand.{memory-keeps, opened-held, opened-stealing}
use Rattle.search_step.proofs.KeptByHand.{opened-waiting, opened-work}
use Rattle.search_step.proofs.Notes.{notes-each, notes-room}

module _ (worker : WorkerParts) (is : IsSafeWorker worker)
    (here : worker.parts.phase ≡ ClosingNow) where
  abbrev parts : Parts
  parts = worker.parts

  abbrev task : Task
  task = task_at worker.ranked worker.charges

  module _ (path : List ℕ) (held : worker.parts.held ≡ Some path) where
    abbrev closed_by : Closing → Phase → ℕ → Option Start → Parts
    closed_by closing phase known best =
        record worker.parts {
          phase = phase;
          held = None;
          piece = worker.parts.piece ++ record { path = path; closing = closing } ∷ [];
          known = known;
          best = best;
        }

    -- by a record that leaves nothing open
    whole-keeps : (closing : Closing) (phase : Phase) (known : ℕ) (best : Option Start) →
        HeldIn phase None → WaitingIn phase worker.parts.waiting → in_work phase ≡ 0 →
        is_stealing phase ≡ false →
        left_open (task_at worker.ranked worker.charges) path closing ≡ [] →
        KeptBy worker None Moved (closed_by closing phase known best)
    whole-keeps closing phase known best held_in waits done quiet whole =
        records worker is path closing (closed_by closing phase known best) here held refl refl
        (waiting-in worker is ClosingNow here ∙ sym whole) done (record {
          held = λ p e. absurd (none-some p e);
          waiting = is.safe.waiting;
          victim = λ e. absurd (not-stealing phase quiet e);
          next = is.safe.next;
          held_in = held_in;
          waiting_in = waits;
          orders = is.safe.orders;
          stored = is.safe.stored;
          room = is.safe.room;
        })
      where
        none-some : (p : List ℕ) → None ≡ Some p → ⊥
        none-some p e = cc

    rests : (closing : Closing) →
        left_open (task_at worker.ranked worker.charges) path closing ≡ [] →
        KeptBy worker None Moved (closed_by closing Resting worker.parts.known worker.parts.best)
    rests closing whole =
        whole-keeps closing Resting parts.known parts.best refl
        (waiting-in worker is ClosingNow here) refl refl whole

    split-keeps : (key : Key) → (starts (task_at worker.ranked worker.charges) path ≡ true →
        IsLiveKey (record { ranked = worker.ranked; path = path }) key) →
        KeptBy worker None Moved (commits path worker.parts
        (Open (children worker.ranked.mill (task_at worker.ranked worker.charges).ranked path)
        (noted (task_at worker.ranked worker.charges) key path)))
    split-keeps key keyed =
        let paths : List (List ℕ) = children task.mill task.ranked path in
        records worker is path Split (commits path parts
        (Open (children task.mill task.ranked path) (noted task key path))) here held refl refl
        refl (opened-work paths) (record {
          held = λ p e. absurd (none-some p e);
          waiting = children-in-tree worker.ranked path (is.safe.held path held);
          victim = λ e. absurd (not-stealing (pushing_or_resting paths) (opened-stealing paths) e);
          next = is.safe.next;
          held_in = opened-held paths;
          waiting_in = opened-waiting paths;
          orders = is.safe.orders;
          stored = notes-each task parts.store key path (IsNotedOf worker.ranked worker.charges)
              is.safe.stored (λ start. record {
                tree = is.safe.held path held;
                key = keyed start;
                dead = refl;
              });
          room = notes-room task parts.store key path ∙ is.safe.room;
        })
      where
        none-some : (p : List ℕ) → None ≡ Some p → ⊥
        none-some p e = cc

    module _ (key : Key) (plan : List ℕ)
        (are : AreOf worker.ranked worker.charges worker.parts.known path key plan) where
      leaf-keeps : (better : Bool) (loss : ℕ) →
          KeptBy worker None Moved (commits path worker.parts
          (cond better (Better (record { plan = plan; loss = loss })) Plain))
      leaf-keeps true loss =
          whole-keeps Leaf Publishing loss (Some (record { plan = plan; loss = loss })) refl
          (waiting-in worker is ClosingNow here) refl refl refl
      leaf-keeps false loss = rests Leaf refl

      open-keeps : (starts (task_at worker.ranked worker.charges) path ≡ true →
          IsLiveKey (record { ranked = worker.ranked; path = path }) key) →
          (found : Option (List ℕ)) → KeptBy worker None Moved (commits path worker.parts
          (verdict_open (task_at worker.ranked worker.charges) key path found))
      open-keeps keyed None = split-keeps key keyed
      open-keeps keyed (Some other) = rests (Dominated other) refl

      inner-keeps : is_leaf (task_at worker.ranked worker.charges) path ≡ false →
          (first second : Bool) →
          exceeds task parts.known path (first_prices task path) ≡ first →
          exceeds task parts.known path (second_prices task path) ≡ second →
          KeptBy worker None Moved (commits path worker.parts
          (cond first (ByPrices (first_prices task path))
          (cond second (ByPrices (second_prices task path))
          (verdict_open task key path (found_at task parts.store key path)))))
      inner-keeps inner true second e f = rests (Priced (first_prices task path)) refl
      inner-keeps inner false true e f = rests (Priced (second_prices task path)) refl
      inner-keeps inner false false e f =
          open-keeps (λ start. are.asked (rw (inner, e, f, start) refl))
          (found_at task parts.store key path)

      commit-keeps : KeptBy worker None Moved (commits path worker.parts
          (verdict (task_at worker.ranked worker.charges) worker.parts.known worker.parts.store key
          plan path))
      commit-keeps = go (is_leaf task path) refl
        where
          go : (leaf : Bool) → is_leaf (task_at worker.ranked worker.charges) path ≡ leaf →
              KeptBy worker None Moved (commits path worker.parts
              (cond leaf (verdict_leaf task parts.known plan path)
              (verdict_inner task parts.known parts.store key path)))
          go true e = leaf-keeps _ _
          go false e = inner-keeps e _ _ refl refl

  pub close-keeps : (turn : Turn) (became : Parts) →
      Closes worker.ranked worker.charges worker.parts turn became →
      KeptBy worker None turn became
  close-keeps turn became closes = go turn closes.are closes.becomes
    where
      held : (path : List ℕ) × (worker.parts.held ≡ Some path)
      held = held-in worker is ClosingNow here

      done : (turn : Turn) →
          AreOf worker.ranked worker.charges worker.parts.known held.0 closes.key closes.plan →
          Becomes became turn (closed (task_at worker.ranked worker.charges) closes.key closes.plan
          worker.parts worker.parts.held) → KeptBy worker None turn became
      done turn are same =
          let here : Becomes became turn (closed task closes.key closes.plan parts (Some held.0)) =
          subst (λ o. Becomes became turn (closed task closes.key closes.plan parts o)) held.1
          same in
          carry worker is None turn became
          (closed task closes.key closes.plan parts (Some held.0)) here
          (commit-keeps held.0 held.1 closes.key closes.plan are)

      go : (turn : Turn) → (turn ≢ OutOfMemory → (path : List ℕ) → worker.parts.held ≡ Some path →
          AreOf worker.ranked worker.charges worker.parts.known path closes.key closes.plan) →
          BecomesOrStays worker.parts became turn
          (closed (task_at worker.ranked worker.charges) closes.key closes.plan worker.parts
          worker.parts.held) → KeptBy worker None turn became
      go Moved are same = done Moved (are (λ e. absurd (cc)) held.0 held.1) same
      go Drew are same = done Drew (are (λ e. absurd (cc)) held.0 held.1) same
      go Idle are same = done Idle (are (λ e. absurd (cc)) held.0 held.1) same
      go Stopped are same = done Stopped (are (λ e. absurd (cc)) held.0 held.1) same
      go OutOfMemory are same =
          subst (λ p. KeptBy worker None OutOfMemory p) (sym same) (memory-keeps worker is)
