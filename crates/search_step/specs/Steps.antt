-- One step of a worker over a hand, by its phase and the hand's answer.
use Rattle.std.specs.Prelude.{ℕ, ◌≡◌, ◌≢◌, ◌<◌, ◌≤◌, Bool, true, List, [], length, Option, Some}
use Rattle.std.specs.Prelude.{None, All}
use Rattle.std.specs.List.{AllByRecursion}
use Rattle.mill_model.specs.Charges.{ChargeTable, Reaches, charge_of}
use Rattle.mill_model.specs.Log.{Task}
use Rattle.mill_model.specs.Rank.{rank}
use Rattle.mill_model.specs.declared.order.Order.{Order}
use Rattle.mill_model.specs.declared.limits.Draw.{Draw}
use Rattle.mill_model.specs.declared.limits.Standing.{Standing}
use Rattle.order_symmetry.specs.Ranked.{RankedOrders, IsRanked, IsPlanOf, orders_of}
use Rattle.split_tree.specs.Keys.{Key, IsLiveKey}
use Rattle.nogood_store.specs.declared.store.Entry.{Entry as Noted}
use Rattle.search_step.specs.Parts.{Parts}
use Rattle.search_step.specs.Serving.{IsPathOf}
use Rattle.search_step.specs.Moves.{Moves, to, rested, took, stole, drew, looked, pushed, closed}
use Rattle.search_step.specs.Moves.{last_of, front, asks, lowers, dead_loss_at}
use Rattle.search_step.specs.declared.event.Event.{Event}
use Rattle.search_step.specs.declared.event.Event.TheVariants.{Took, Stole, Pushed, Refused}
use Rattle.search_step.specs.declared.event.Event.TheVariants.{Drew as DrewEvent, Looked, Published}
use Rattle.search_step.specs.declared.event.Event.TheVariants.{Stopping, Stood}
use Rattle.search_step.specs.declared.parts.Phase.{Phase}
use Rattle.search_step.specs.declared.parts.Phase.TheVariants.{Resting, Taking, Stealing, Holding}
use Rattle.search_step.specs.declared.parts.Phase.TheVariants.{Halting, Ended, Bounding}
use Rattle.search_step.specs.declared.parts.Phase.TheVariants.{Closing as ClosingNow, Publishing}
use Rattle.search_step.specs.declared.parts.Phase.TheVariants.{Pushing}
use Rattle.search_step.specs.declared.parts.Turn.{Turn}
use Rattle.search_step.specs.declared.parts.Turn.TheVariants.{Moved, Drew, Idle, Stopped}
use Rattle.search_step.specs.declared.parts.Turn.TheVariants.{OutOfMemory}

-- a worker that isn't at its end may draw
abbrev pub MayStep : Phase → Bool → Type 0
MayStep Halting may = Unit {0}
MayStep Ended may = Unit {0}
MayStep Resting may = may ≡ true
MayStep Taking may = may ≡ true
MayStep Stealing may = may ≡ true
MayStep Holding may = may ≡ true
MayStep Bounding may = may ≡ true
MayStep ClosingNow may = may ≡ true
MayStep Publishing may = may ≡ true
MayStep Pushing may = may ≡ true

-- what a worker holds in a phase
abbrev pub HeldIn : Phase → Option (List ℕ) → Type 0
HeldIn Resting held = held ≡ None
HeldIn Taking held = held ≡ None
HeldIn Stealing held = held ≡ None
HeldIn Publishing held = held ≡ None
HeldIn Pushing held = held ≡ None
HeldIn Holding held = (path : List ℕ) × (held ≡ Some path)
HeldIn Halting held = (path : List ℕ) × (held ≡ Some path)
HeldIn Ended held = (path : List ℕ) × (held ≡ Some path)
HeldIn Bounding held = (path : List ℕ) × (held ≡ Some path)
HeldIn ClosingNow held = (path : List ℕ) × (held ≡ Some path)

-- children wait in the phase Pushing alone, and then at least one
abbrev pub WaitingIn : Phase → List (List ℕ) → Type 0
WaitingIn Pushing waiting = 0 < length waiting
WaitingIn Resting waiting = waiting ≡ []
WaitingIn Taking waiting = waiting ≡ []
WaitingIn Stealing waiting = waiting ≡ []
WaitingIn Publishing waiting = waiting ≡ []
WaitingIn Holding waiting = waiting ≡ []
WaitingIn Halting waiting = waiting ≡ []
WaitingIn Ended waiting = waiting ≡ []
WaitingIn Bounding waiting = waiting ≡ []
WaitingIn ClosingNow waiting = waiting ≡ []

-- what the logs of ranked orders are judged by
abbrev pub task_at : RankedOrders → ChargeTable → Task
task_at ranked charges =
    record { mill = ranked.mill; charge = charge_of charges; ranked = orders_of ranked }

-- the orders are those of an instance, none is heavier than the largest size, and each load up to
-- that has a charge
pub record FitsMill (ranked : RankedOrders) (charges : ChargeTable) : Type 0 where
  pub of_instance : IsRanked ranked
  pub light : All (λ order. order.weight ≤ ranked.mill.largest) (orders_of ranked)
  pub reach : Reaches charges ranked.mill

-- a noted path of the tree, with its live key and its dead loss
pub record IsNotedOf (ranked : RankedOrders) (charges : ChargeTable) (note : Noted) : Type 0 where
  pub tree : IsPathOf ranked note.path
  pub key : IsLiveKey (record { ranked = ranked; path = note.path }) note.key
  pub dead : note.dead ≡ dead_loss_at (task_at ranked charges) note.path

-- what a worker has is of the tree and fits its phase, and its victim is another worker
pub record IsSafe (ranked : RankedOrders) (charges : ChargeTable) (workers number : ℕ) (w : Parts)
    : Type 0 where
  pub held : (path : List ℕ) → w.held ≡ Some path → IsPathOf ranked path
  pub waiting : AllByRecursion (IsPathOf ranked) w.waiting
  pub victim : w.phase ≡ Stealing → (w.victim < workers) × (w.victim ≢ number)
  pub next : 1 < workers → (w.victim < workers) × (w.victim ≢ number)
  pub held_in : HeldIn w.phase w.held
  pub waiting_in : WaitingIn w.phase w.waiting
  pub orders : w.orders ≡ length ranked.placed
  pub stored : AllByRecursion (IsNotedOf ranked charges) w.store.entries
  pub room : w.store.room ≡ 65536

abbrev pub Becomes : Parts → Turn → Moves → Type 0
Becomes w turn m = (w ≡ m.0) × (turn ≡ m.1)

abbrev pub IsOfTree : RankedOrders → Option (List ℕ) → Type 0
IsOfTree ranked None = Unit {0}
IsOfTree ranked (Some path) = IsPathOf ranked path

-- with memory refused a worker stays as it was
abbrev pub BecomesOrStays : Parts → Parts → Turn → Moves → Type 0
BecomesOrStays w w' Moved m = Becomes w' Moved m
BecomesOrStays w w' Drew m = Becomes w' Drew m
BecomesOrStays w w' Idle m = Becomes w' Idle m
BecomesOrStays w w' Stopped m = Becomes w' Stopped m
BecomesOrStays w w' OutOfMemory m = w' ≡ w

-- a plan in the file's order is that of a path
abbrev pub IsPlanAt : RankedOrders → List ℕ → List ℕ → Type 0
IsPlanAt ranked path plan =
    (orders : List Order) → ranked.placed ≡ rank orders → IsPlanOf orders path plan

-- the live key and the plan of a path, as far as its closing asks for them
pub record AreOf (ranked : RankedOrders) (charges : ChargeTable) (known : ℕ) (path : List ℕ)
    (key : Key) (plan : List ℕ) : Type 0 where
  pub asked :
      asks (task_at ranked charges) known path ≡ true →
      IsLiveKey (record { ranked = ranked; path = path }) key
  pub lowered : lowers (task_at ranked charges) known path ≡ true → IsPlanAt ranked path plan

-- a closing of the held path
pub record Closes (ranked : RankedOrders) (charges : ChargeTable) (w : Parts) (turn : Turn)
    (w' : Parts) : Type 0 where
  pub key : Key
  pub plan : List ℕ
  pub are :
      turn ≢ OutOfMemory → (path : List ℕ) → w.held ≡ Some path →
      AreOf ranked charges w.known path key plan
  pub becomes : BecomesOrStays w w' turn (closed (task_at ranked charges) key plan w w.held)

module _ {H : Type 0} (did : H → Event → H → Type 0) where
  abbrev pub PushesAt : List ℕ → Parts → H → Turn → Parts → H → Type 0
  PushesAt path w h OutOfMemory w' h' = did h (Refused path) h' × (w' ≡ w)
  PushesAt path w h Moved w' h' =
      did h (Pushed path) h' × Becomes w' Moved (pushed w (front w.waiting))
  PushesAt path w h Drew w' h' = ⊥
  PushesAt path w h Idle w' h' = ⊥
  PushesAt path w h Stopped w' h' = ⊥

  abbrev pub Pushes : Option (List ℕ) → Parts → H → Turn → Parts → H → Type 0
  Pushes None w h turn w' h' = (h' ≡ h) × Becomes w' turn (to Resting w, Moved)
  Pushes (Some path) w h turn w' h' = PushesAt path w h turn w' h'

  module _ (ranked : RankedOrders) (charges : ChargeTable) (workers number : ℕ) where
    abbrev pub StepAt : Phase → Parts → H → Turn → Parts → H → Type 0
    StepAt Resting w h turn w' h' =
        (s : Standing) × did h (Stood s) h' × Becomes w' turn (rested w s)
    StepAt Taking w h turn w' h' =
        (p : Option (List ℕ)) × did h (Took p) h' × IsOfTree ranked p
        × Becomes w' turn (took workers w p)
    StepAt Stealing w h turn w' h' =
        (p : Option (List ℕ)) × did h (Stole w.victim p) h' × IsOfTree ranked p
        × Becomes w' turn (stole workers number w p)
    StepAt Holding w h turn w' h' =
        (d : Draw) × did h (DrewEvent d) h' × Becomes w' turn (drew w d)
    StepAt Halting w h turn w' h' = did h Stopping h' × Becomes w' turn (to Ended w, Stopped)
    StepAt Ended w h turn w' h' = (h' ≡ h) × Becomes w' turn (w, Stopped)
    StepAt Bounding w h turn w' h' =
        (n : ℕ) × did h (Looked n) h' × Becomes w' turn (looked w n)
    StepAt ClosingNow w h turn w' h' = (h' ≡ h) × Closes ranked charges w turn w'
    StepAt Publishing w h turn w' h' =
        (n : ℕ) × did h (Published w.known n) h' × Becomes w' turn (to Resting w, Moved)
    StepAt Pushing w h turn w' h' = Pushes (last_of w.waiting) w h turn w' h'

    abbrev pub Steps : Parts → H → Turn → Parts → H → Type 0
    Steps w h turn w' h' = StepAt w.phase w h turn w' h'
