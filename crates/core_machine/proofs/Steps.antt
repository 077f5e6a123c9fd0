-- An event of the machine is a step of a worker over the calls of one thread, and each such step is
-- an event, but where it wanted memory.
use Rattle.std.proofs.Common.{ℕ, ◌≡◌, ◌≢◌, ◌⊎◌, List, [], ◌∷◌, length, Option, Some, None, refl}
use Rattle.std.proofs.Common.{sym, ap, ◌∙◌, subst, inl, inr}
use Rattle.std.specs.List.{AllByRecursion}
use Rattle.mill_model.specs.Charges.{ChargeTable}
use Rattle.order_symmetry.specs.Ranked.{RankedOrders, IsRanked}
use Rattle.search_step.specs.Parts.{Parts}
use Rattle.search_step.specs.Moves.{Moves, rested, took, stole, drew, looked, closed}
use Rattle.search_step.specs.Moves.{last_of}
use Rattle.search_step.specs.Serving.{IsPathOf}
use Rattle.search_step.specs.Steps.{Steps, StepAt, Pushes, IsOfTree, Becomes, BecomesOrStays}
use Rattle.search_step.specs.Steps.{Closes}
use Rattle.search_step.specs.Steps.{AreOf, HeldIn, task_at}
use Rattle.search_step.specs.declared.event.Event.{Event}
use Rattle.search_step.specs.declared.event.Event.TheVariants.{Took, Stole, Pushed, Refused}
use Rattle.search_step.specs.declared.event.Event.TheVariants.{Drew as DrewEvent, Looked, Published}
use Rattle.search_step.specs.declared.event.Event.TheVariants.{Stopping, Stood}
use Rattle.search_step.specs.declared.parts.Phase.{Phase}
use Rattle.search_step.specs.declared.parts.Phase.TheVariants.{Resting, Taking, Stealing, Holding}
use Rattle.search_step.specs.declared.parts.Phase.TheVariants.{Halting, Ended, Bounding}
use Rattle.search_step.specs.declared.parts.Phase.TheVariants.{Closing as ClosingNow, Publishing}
use Rattle.search_step.specs.declared.parts.Phase.TheVariants.{Pushing}
use Rattle.search_step.specs.declared.parts.Turn.{Turn}
use Rattle.search_step.specs.declared.parts.Turn.TheVariants.{Moved, Drew, Idle, Stopped}
use Rattle.search_step.specs.declared.parts.Turn.TheVariants.{OutOfMemory}
use Rattle.core_machine.proofs.Closings.{computed-are, closes-as-computed}
use Rattle.core_machine.specs.Calls.{called}
use Rattle.core_machine.specs.Core.{Core, Shared, any_busy, closed_held, deque, first_of}
use Rattle.core_machine.specs.Core.{step_in, push_last}
use Rattle.core_machine.specs.Places.{live_key_at, plan_at}

-- the last and the first of some paths, and the others, are among them
pub all-last : (P : List ℕ → Type 0) (paths : List (List ℕ)) (path : List ℕ) →
    AllByRecursion P paths → last_of paths ≡ Some path → P path
all-last P [] path a e = absurd (cc)
all-last P (x ∷ []) path a e = subst P (some-same x path e) a.0
  where
    some-same : (x y : List ℕ) → Some x ≡ Some y → x ≡ y
    some-same x y e = cc
all-last P (x ∷ y ∷ paths) path a e = all-last P (y ∷ paths) path a.1 e

pub all-first : (P : List ℕ → Type 0) (paths : List (List ℕ)) (path : List ℕ) →
    AllByRecursion P paths → first_of paths ≡ Some path → P path
all-first P [] path a e = absurd (cc)
all-first P (x ∷ paths) path a e = subst P (some-same x path e) a.0
  where
    some-same : (x y : List ℕ) → Some x ≡ Some y → x ≡ y
    some-same x y e = cc

module _ (ranked : RankedOrders) (charges : ChargeTable) (budget : ℕ) (ranks : IsRanked ranked)
    (c : Core) (i : ℕ) (w : Parts) where
  abbrev calls : Shared → Event → Shared → Type 0
  calls = called budget i (any_busy c.workers)

  -- what a step over the calls makes of the worker and of what is shared
  abbrev StepsTo : Phase → Turn → Parts → Shared → Type 0
  StepsTo phase turn w' s' =
      StepAt calls ranked charges (length c.workers) i phase w c.shared turn w' s'

  abbrev made : Phase → Shared × Moves
  made phase = step_in ranked charges budget phase c i w

  module _ (held : HeldIn w.phase w.held)
      (tree : (path : List ℕ) → w.held ≡ Some path → IsPathOf ranked path)
      (queued : (j : ℕ) → AllByRecursion (IsPathOf ranked) (deque c.shared j)) where
    of-tree : (o : Option (List ℕ)) → ((path : List ℕ) → o ≡ Some path → IsPathOf ranked path) →
        IsOfTree ranked o
    of-tree None h = tt
    of-tree (Some path) h = h path refl

    closes-here : (path : List ℕ) → w.held ≡ Some path →
        Closes ranked charges w (closed_held ranked charges w w.held).1
        (closed_held ranked charges w w.held).0
    closes-here path e =
        subst (λ (o : Option (List ℕ)). Closes ranked charges w
        (closed_held ranked charges w o).1 (closed_held ranked charges w o).0) (sym e) (record {
          key = live_key_at ranked path;
          plan = plan_at ranked path;
          are = λ no other f. subst (λ (p : List ℕ).
              AreOf ranked charges w.known p (live_key_at ranked path) (plan_at ranked path))
              (some-same path other (sym e ∙ f))
              (computed-are ranked charges ranks path (tree path e) w.known);
          becomes = subst (λ (o : Option (List ℕ)).
              BecomesOrStays w (closed_held ranked charges w (Some path)).0 Moved
              (closed (task_at ranked charges) (live_key_at ranked path) (plan_at ranked path) w
              o)) (sym e) (refl, refl);
        })
      where
        some-same : (x y : List ℕ) → Some x ≡ Some y → x ≡ y
        some-same x y e = cc

    pushes-here : (o : Option (List ℕ)) →
        Pushes calls o w c.shared (push_last c i w o).1.1 (push_last c i w o).1.0
        (push_last c i w o).0
    pushes-here None = (refl, (refl, refl))
    pushes-here (Some path) = (refl, (refl, refl))

    steps-at : (phase : Phase) → w.phase ≡ phase →
        StepsTo phase (made phase).1.1 (made phase).1.0 (made phase).0
    steps-at Resting is = (_, (refl, refl), (refl, refl))
    steps-at Taking is = (
      last_of (deque c.shared i),
      (refl, refl),
      of-tree (last_of (deque c.shared i)) (λ path e.
          all-last (IsPathOf ranked) (deque c.shared i) path (queued i) e),
      (refl, refl),
    )
    steps-at Stealing is = (
      first_of (deque c.shared w.victim),
      (refl, refl),
      of-tree (first_of (deque c.shared w.victim)) (λ path e.
          all-first (IsPathOf ranked) (deque c.shared w.victim) path (queued w.victim) e),
      (refl, refl),
    )
    steps-at Holding is = (_, (refl, refl), (refl, refl))
    steps-at Halting is = (refl, (refl, refl))
    steps-at Ended is = (refl, (refl, refl))
    steps-at Bounding is = (_, (refl, refl), (refl, refl))
    steps-at ClosingNow is =
        let h = subst (λ (p : Phase). HeldIn p w.held) is held in
        (refl, closes-here h.0 h.1)
    steps-at Publishing is = (_, (refl, refl), (refl, refl))
    steps-at Pushing is = pushes-here (last_of w.waiting)

    -- an event is a step
    pub event-steps :
        Steps calls ranked charges (length c.workers) i w c.shared (made w.phase).1.1
        (made w.phase).1.0 (made w.phase).0
    event-steps = steps-at w.phase refl

    -- a step is an event, with the same turn, or it wanted memory and changed nothing
    abbrev pub IsMade : Phase → Turn → Parts → Shared → Type 0
    IsMade phase turn w' s' =
        ((s' ≡ (made phase).0) × Becomes w' turn (made phase).1)
        ⊎ ((turn ≡ OutOfMemory) × (s' ≡ c.shared) × (w' ≡ w))

    closes-made : (turn : Turn) (w' : Parts) (s' : Shared) (path : List ℕ) →
        w.held ≡ Some path → s' ≡ c.shared → Closes ranked charges w turn w' →
        IsMade ClosingNow turn w' s'
    closes-made turn w' s' path e d k = go turn (λ no. k.are no path e) k.becomes
      where
        done : (turn : Turn) → AreOf ranked charges w.known path k.key k.plan →
            Becomes w' turn (closed (task_at ranked charges) k.key k.plan w w.held) →
            IsMade ClosingNow turn w' s'
        done turn are b =
            let here : Becomes w' turn (closed (task_at ranked charges) k.key k.plan w
            (Some path)) = subst (λ (o : Option (List ℕ)).
            Becomes w' turn (closed (task_at ranked charges) k.key k.plan w o)) e b in
            let computed : Becomes w' turn (closed_held ranked charges w (Some path)) =
            subst (λ (m : Moves). Becomes w' turn m)
            (closes-as-computed ranked charges ranks path (tree path e) w k.key k.plan are)
            here in
            inl (
              d,
              subst (λ (o : Option (List ℕ)).
                  Becomes w' turn (closed_held ranked charges w o)) (sym e) computed,
            )

        go : (turn : Turn) →
            (turn ≢ OutOfMemory → AreOf ranked charges w.known path k.key k.plan) →
            BecomesOrStays w w' turn
            (closed (task_at ranked charges) k.key k.plan w w.held) →
            IsMade ClosingNow turn w' s'
        go Moved are b = done Moved (are (λ q. absurd (moved-memory q))) b
          where
            moved-memory : Moved ≡ OutOfMemory → ⊥
            moved-memory q = cc
        go Drew are b = done Drew (are (λ q. absurd (drew-memory q))) b
          where
            drew-memory : Drew ≡ OutOfMemory → ⊥
            drew-memory q = cc
        go Idle are b = done Idle (are (λ q. absurd (idle-memory q))) b
          where
            idle-memory : Idle ≡ OutOfMemory → ⊥
            idle-memory q = cc
        go Stopped are b = done Stopped (are (λ q. absurd (stopped-memory q))) b
          where
            stopped-memory : Stopped ≡ OutOfMemory → ⊥
            stopped-memory q = cc
        go OutOfMemory are b = inr (refl, d, b)

    pushes-made : (o : Option (List ℕ)) → last_of w.waiting ≡ o → (turn : Turn) (w' : Parts)
        (s' : Shared) → Pushes calls o w c.shared turn w' s' →
        ((s' ≡ (push_last c i w o).0) × Becomes w' turn (push_last c i w o).1)
        ⊎ ((turn ≡ OutOfMemory) × (s' ≡ c.shared) × (w' ≡ w))
    pushes-made None e turn w' s' b = inl (b.0, b.1)
    pushes-made (Some path) e Moved w' s' b = inl (b.0, b.1)
    pushes-made (Some path) e OutOfMemory w' s' b = inr (refl, b.0, b.1)
    pushes-made (Some path) e Drew w' s' b = absurd b
    pushes-made (Some path) e Idle w' s' b = absurd b
    pushes-made (Some path) e Stopped w' s' b = absurd b

    made-at : (phase : Phase) → w.phase ≡ phase → (turn : Turn) (w' : Parts) (s' : Shared) →
        StepsTo phase turn w' s' → IsMade phase turn w' s'
    made-at Resting is turn w' s' b =
        inl (b.1.1, subst (λ a. Becomes w' turn (rested w a)) b.1.0 b.2)
    made-at Taking is turn w' s' b =
        inl (b.1.1, subst (λ a. Becomes w' turn (took (length c.workers) w a)) b.1.0 b.3)
    made-at Stealing is turn w' s' b =
        inl (b.1.1, subst (λ a. Becomes w' turn (stole (length c.workers) i w a)) b.1.0 b.3)
    made-at Holding is turn w' s' b =
        inl (b.1.1, subst (λ a. Becomes w' turn (drew w a)) b.1.0 b.2)
    made-at Halting is turn w' s' b = inl (b.0, b.1)
    made-at Ended is turn w' s' b = inl (b.0, b.1)
    made-at Bounding is turn w' s' b =
        inl (b.1.1, subst (λ a. Becomes w' turn (looked w a)) b.1.0 b.2)
    made-at ClosingNow is turn w' s' b =
        let h = subst (λ (p : Phase). HeldIn p w.held) is held in
        closes-made turn w' s' h.0 h.1 b.0 b.1
    made-at Publishing is turn w' s' b = inl (b.1.1, b.2)
    made-at Pushing is turn w' s' b = pushes-made (last_of w.waiting) refl turn w' s' b

    pub step-made : (turn : Turn) (w' : Parts) (s' : Shared) →
        Steps calls ranked charges (length c.workers) i w c.shared turn w' s' →
        IsMade w.phase turn w' s'
    step-made turn w' s' b = made-at w.phase refl turn w' s' b

-- A step over one hand is a step over another that sees the same calls.
module _ {H G : Type 0} (did : H → Event → H → Type 0) (other : G → Event → G → Type 0)
    (see : H → G) (h h' : H) (calls : (e : Event) → did h e h' → other (see h) e (see h'))
    (ranked : RankedOrders) (charges : ChargeTable) (workers number : ℕ) (w w' : Parts)
    (turn : Turn) where
  pushes-seen : (o : Option (List ℕ)) (t : Turn) → Pushes did o w h t w' h' →
      Pushes other o w (see h) t w' (see h')
  pushes-seen None t b = (ap see b.0, b.1)
  pushes-seen (Some path) Moved b = (calls (Pushed path) b.0, b.1)
  pushes-seen (Some path) OutOfMemory b = (calls (Refused path) b.0, b.1)
  pushes-seen (Some path) Drew b = absurd b
  pushes-seen (Some path) Idle b = absurd b
  pushes-seen (Some path) Stopped b = absurd b

  seen-at : (phase : Phase) → StepAt did ranked charges workers number phase w h turn w' h' →
      StepAt other ranked charges workers number phase w (see h) turn w' (see h')
  seen-at Resting b = (b.0, calls (Stood b.0) b.1, b.2)
  seen-at Taking b = (b.0, calls (Took b.0) b.1, b.2, b.3)
  seen-at Stealing b = (b.0, calls (Stole w.victim b.0) b.1, b.2, b.3)
  seen-at Holding b = (b.0, calls (DrewEvent b.0) b.1, b.2)
  seen-at Halting b = (calls Stopping b.0, b.1)
  seen-at Ended b = (ap see b.0, b.1)
  seen-at Bounding b = (b.0, calls (Looked b.0) b.1, b.2)
  seen-at ClosingNow b = (ap see b.0, b.1)
  seen-at Publishing b = (b.0, calls (Published w.known b.0) b.1, b.2)
  seen-at Pushing b = pushes-seen (last_of w.waiting) turn b

  pub steps-seen : Steps did ranked charges workers number w h turn w' h' →
      Steps other ranked charges workers number w (see h) turn w' (see h')
  steps-seen b = seen-at w.phase b
