-- The machine of workers on one thread: what they have, what they share, and how they take turns.
use Rattle.std.specs.Prelude.{ℕ, zero, suc, ◌+◌, ◌≡◌, Bool, true, false, cond, ◌&&◌, not, min}
use Rattle.std.specs.Prelude.{List, [], ◌∷◌, ◌++◌, length, map, flat_map, replicate, get_or, set}
use Rattle.std.specs.Prelude.{Option, Some, None, option_to_list}
use Rattle.std.specs.List.{list_all, list_any}
use Rattle.list_laws.specs.Sets.{below}
use Rattle.mill_model.specs.Charges.{ChargeTable}
use Rattle.mill_model.specs.declared.closing.Entry.{Entry}
use Rattle.mill_model.specs.declared.limits.Standing.{Standing}
use Rattle.mill_model.specs.declared.limits.Standing.TheVariants.{Going, Halted, Drained}
use Rattle.order_symmetry.specs.Ranked.{RankedOrders}
use Rattle.search_step.specs.Parts.{Parts}
use Rattle.search_step.specs.Moves.{Moves, to, rested, took, stole, drew, looked, pushed, closed}
use Rattle.search_step.specs.Moves.{last_of, front, new_worker}
use Rattle.search_step.specs.Serving.{draw_at}
use Rattle.search_step.specs.Steps.{task_at}
use Rattle.search_step.specs.declared.parts.Phase.{Phase}
use Rattle.search_step.specs.declared.parts.Phase.TheVariants.{Resting, Taking, Stealing, Holding}
use Rattle.search_step.specs.declared.parts.Phase.TheVariants.{Halting, Ended, Bounding}
use Rattle.search_step.specs.declared.parts.Phase.TheVariants.{Closing as ClosingNow, Publishing}
use Rattle.search_step.specs.declared.parts.Phase.TheVariants.{Pushing}
use Rattle.search_step.specs.declared.parts.Turn.{Turn}
use Rattle.search_step.specs.declared.parts.Turn.TheVariants.{Moved, Drew, Idle, Stopped}
use Rattle.search_step.specs.declared.parts.Turn.TheVariants.{OutOfMemory}
use Rattle.core_machine.specs.Places.{live_key_at, plan_at}

-- what workers share: a deque each, the least loss, the number of tickets drawn, and whether a halt
-- was called
pub record Shared : Type 0 where
  pub deques : List (List (List ℕ))
  pub least : ℕ
  pub drawn : ℕ
  pub halted : Bool

-- a state of the machine
pub record Core : Type 0 where
  pub shared : Shared
  pub workers : List Parts

-- What the calls of a step make of what is shared.

-- the first of some paths, and what is left
abbrev pub first_of : List (List ℕ) → Option (List ℕ)
first_of [] = None
first_of (path ∷ paths) = Some path

abbrev pub tail_of : List (List ℕ) → List (List ℕ)
tail_of [] = []
tail_of (path ∷ paths) = paths

abbrev pub deque : Shared → ℕ → List (List ℕ)
deque s number = get_or s.deques number []

abbrev pub with_deque : Shared → ℕ → List (List ℕ) → Shared
with_deque s number paths = record s { deques = set s.deques number paths }

-- a deque's own worker takes its last path and puts one last, and others steal its first
abbrev pub with_taken : Shared → ℕ → Shared
with_taken s number = with_deque s number (front (deque s number))

abbrev pub with_stolen : Shared → ℕ → Shared
with_stolen s victim = with_deque s victim (tail_of (deque s victim))

abbrev pub with_pushed : Shared → ℕ → List ℕ → Shared
with_pushed s number path = with_deque s number (deque s number ++ path ∷ [])

abbrev pub with_least : Shared → ℕ → Shared
with_least s loss = record s { least = min loss s.least }

abbrev pub with_draw : Shared → Shared
with_draw s = record s { drawn = s.drawn + 1 }

abbrev pub with_halt : Shared → Shared
with_halt s = record s { halted = true }

-- Whether work is left.

abbrev pub is_empty : List (List ℕ) → Bool
is_empty [] = true
is_empty (path ∷ paths) = false

-- whether a worker has a path that isn't closed
abbrev pub is_busy : Parts → Bool
is_busy w = not (is_empty (option_to_list w.held) && is_empty w.waiting)

abbrev pub any_busy : List Parts → Bool
any_busy workers = list_any is_busy workers

-- how workers stand, by whether one of them is busy
abbrev pub standing : Bool → Shared → Standing
standing busy s =
    cond s.halted Halted (cond (list_all is_empty s.deques && not busy) Drained Going)

-- What an event makes of a state.

-- what stands for a worker that isn't there
abbrev pub no_worker : Parts
no_worker = record {
  phase = Ended;
  held = None;
  waiting = [];
  piece = [];
  orders = 0;
  store = record { entries = []; room = 0 };
  known = 0;
  victim = 0;
  best = None;
}

abbrev pub worker : Core → ℕ → Parts
worker c number = get_or c.workers number no_worker

-- the state after what a worker's step made of it and of what is shared, with the answer
abbrev pub with_worker : Core → ℕ → Shared → Moves → Core × Turn
with_worker c number s move =
    (record { shared = s; workers = set c.workers number move.0 }, move.1)

-- what is shared after a push of the last waiting path, with what becomes of the worker
abbrev pub push_last : Core → ℕ → Parts → Option (List ℕ) → Shared × Moves
push_last c number w None = (c.shared, (to Resting w, Moved))
push_last c number w (Some path) =
    (with_pushed c.shared number path, pushed w (front w.waiting))

abbrev pub is_stopped : Turn → Bool
is_stopped Stopped = true
is_stopped Moved = false
is_stopped Drew = false
is_stopped Idle = false
is_stopped OutOfMemory = false

module _ (ranked : RankedOrders) (charges : ChargeTable) where
  -- a worker after it closed the path that it holds
  abbrev pub closed_held : Parts → Option (List ℕ) → Moves
  closed_held w None = (to Resting w, Moved)
  closed_held w (Some path) =
      closed (task_at ranked charges) (live_key_at ranked path) (plan_at ranked path) w (Some path)

  module _ (budget : ℕ) where
    -- what is shared after a worker's step, with what becomes of the worker, by its phase
    abbrev pub step_in : Phase → Core → ℕ → Parts → Shared × Moves
    step_in Resting c number w =
        (c.shared, rested w (standing (any_busy c.workers) c.shared))
    step_in Taking c number w = (
      with_taken c.shared number,
      took (length c.workers) w (last_of (deque c.shared number)),
    )
    step_in Stealing c number w = (
      with_stolen c.shared w.victim,
      stole (length c.workers) number w (first_of (deque c.shared w.victim)),
    )
    step_in Holding c number w =
        (with_draw c.shared, drew w (draw_at budget c.shared.drawn))
    step_in Halting c number w = (with_halt c.shared, (to Ended w, Stopped))
    step_in Ended c number w = (c.shared, (w, Stopped))
    step_in Bounding c number w = (c.shared, looked w c.shared.least)
    step_in ClosingNow c number w = (c.shared, closed_held w w.held)
    step_in Publishing c number w = (with_least c.shared w.known, (to Resting w, Moved))
    step_in Pushing c number w = push_last c number w (last_of w.waiting)

    abbrev pub step : Core → ℕ → Shared × Moves
    step c number = step_in (worker c number).phase c number (worker c number)

    -- an event: the step of one worker
    abbrev pub event : Core → ℕ → Core × Turn
    event c number = with_worker c number (step c number).0 (step c number).1

    -- the state after the events of a schedule, which names a worker for each
    abbrev pub after_schedule : Core → List ℕ → Core
    after_schedule c [] = c
    after_schedule c (number ∷ schedule) = after_schedule (event c number).0 schedule

    -- the state after an event of each of the first workers, and whether each answered Stopped
    abbrev pub round : Core → ℕ → Core × Bool
    round c zero = (c, true)
    round c (suc number) =
        let before = round c number in
        let next = event before.0 number in
        (next.0, before.1 && is_stopped next.1)

    abbrev pub whole_round : Core → Core × Bool
    whole_round c = round c (length c.workers)

    -- rounds from a state end with another, after the first in which every event answers Stopped
    pub data Rounds : Core → Core → Type 0 where
      Last : (c d : Core) → whole_round c ≡ (d, true) → Rounds c d
      More : (c m d : Core) → whole_round c ≡ (m, false) → Rounds m d → Rounds c d

    -- the state after so many rounds, and whether each event of the last one answered Stopped
    abbrev pub after_rounds : ℕ → Core → Core × Bool
    after_rounds zero c = (c, false)
    after_rounds (suc count) c = whole_round (after_rounds count c).0

-- How a run begins.

abbrev pub new_workers : ℕ → ℕ → ℕ → List Parts
new_workers workers orders loss = map (new_worker workers orders loss) (below workers)

-- the given paths in deque 0, new workers, a loss and the number of tickets drawn before
abbrev pub first_state : ℕ → ℕ → ℕ → ℕ → List (List ℕ) → Core
first_state workers orders loss drawn paths = record {
  shared = record {
    deques = set (replicate workers []) 0 paths;
    least = loss;
    drawn = drawn;
    halted = false;
  };
  workers = new_workers workers orders loss;
}

-- the empty path in deque 0, new workers, the start's loss and no ticket drawn
abbrev pub start_state : RankedOrders → ℕ → ℕ → Core
start_state ranked workers loss =
    first_state workers (length ranked.placed) loss 0 ([] ∷ [])

-- a run of a schedule: its events, then rounds to their end
abbrev pub IsCoreRun : RankedOrders → ChargeTable → ℕ → ℕ → ℕ → List ℕ → Core → Type 0
IsCoreRun ranked charges budget workers loss schedule last =
    Rounds ranked charges budget
    (after_schedule ranked charges budget (start_state ranked workers loss) schedule) last

-- What a state leaves.

abbrev pub pieces_of : Core → List (List Entry)
pieces_of c = map (λ w. w.piece) c.workers

-- the paths that a worker holds or lets wait
abbrev pub unclosed_by : Parts → List (List ℕ)
unclosed_by w = option_to_list w.held ++ w.waiting

-- all paths that are held, that wait or are in a deque
abbrev pub unclosed_of : Core → List (List ℕ)
unclosed_of c = flat_map unclosed_by c.workers ++ flat_map (λ paths. paths) c.shared.deques
