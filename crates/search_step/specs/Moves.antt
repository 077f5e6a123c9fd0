-- What one step makes of a worker, by its phase and the answer of the hand.
use Rattle.std.specs.Prelude.{ℕ, ◌+◌, Bool, true, cond, ◌&&◌, not, min, eqb, ltb, List, []}
use Rattle.std.specs.Prelude.{◌∷◌, ◌++◌, length, Option, Some, None, ℤ, pos, ◌-ℤ◌, ◌*ℤ◌, int_lt}
use Rattle.mill_model.specs.Plan.{loss}
use Rattle.mill_model.specs.Rank.{starts_class_in}
use Rattle.mill_model.specs.Tree.{children}
use Rattle.mill_model.specs.Prices.{worth}
use Rattle.mill_model.specs.LiveKey.{dead_loss}
use Rattle.mill_model.specs.Bounds.{ascent_prices, swept_prices}
use Rattle.mill_model.specs.Log.{Task}
use Rattle.mill_model.specs.declared.closing.Entry.{Entry}
use Rattle.mill_model.specs.declared.closing.Closing.{Closing}
use Rattle.mill_model.specs.declared.closing.Closing.TheVariants.{Split, Leaf, Priced, Dominated}
use Rattle.mill_model.specs.declared.limits.Draw.{Draw}
use Rattle.mill_model.specs.declared.limits.Draw.TheVariants.{Ticket, Spent}
use Rattle.mill_model.specs.declared.limits.Standing.{Standing}
use Rattle.mill_model.specs.declared.limits.Standing.TheVariants.{Going, Halted, Drained}
use Rattle.refute_log.specs.Fits.{path_fits}
use Rattle.split_tree.specs.Keys.{Key}
use Rattle.nogood_store.specs.Entries.{Stored, found, path_of}
use Rattle.nogood_store.specs.declared.store.Entry.{Entry as Noted}
use Rattle.search_step.specs.Parts.{Parts}
use Rattle.search_step.specs.declared.parts.Verdict.{Verdict}
use Rattle.search_step.specs.declared.parts.Verdict.TheVariants.{Better, Plain, ByPrices, ByOther}
use Rattle.search_step.specs.declared.parts.Verdict.TheVariants.{Open}
use Rattle.search_step.specs.declared.parts.Phase.{Phase}
use Rattle.search_step.specs.declared.parts.Phase.TheVariants.{Resting, Taking, Stealing, Holding}
use Rattle.search_step.specs.declared.parts.Phase.TheVariants.{Halting, Bounding}
use Rattle.search_step.specs.declared.parts.Phase.TheVariants.{Closing as ClosingNow, Publishing}
use Rattle.search_step.specs.declared.parts.Phase.TheVariants.{Pushing}
use Rattle.search_step.specs.declared.parts.Turn.{Turn}
use Rattle.search_step.specs.declared.parts.Turn.TheVariants.{Moved, Drew, Idle, Stopped}

-- the last of a list, and what is left
abbrev pub last_of : List (List ℕ) → Option (List ℕ)
last_of [] = None
last_of (x ∷ []) = Some x
last_of (x ∷ y ∷ xs) = last_of (y ∷ xs)

abbrev pub front : List (List ℕ) → List (List ℕ)
front [] = []
front (x ∷ []) = []
front (x ∷ y ∷ xs) = x ∷ front (y ∷ xs)

-- a worker after a step, with the answer
abbrev pub Moves : Type 0
Moves = Parts × Turn

abbrev pub to : Phase → Parts → Parts
to phase w = record w { phase = phase }

abbrev pub hold : List ℕ → Parts → Parts
hold path w = record w { phase = Holding; held = Some path }

-- the victim after another: by number, around, leaving out the worker's own
abbrev pub after : ℕ → ℕ → ℕ
after workers v = cond (ltb (v + 1) workers) (v + 1) 0

abbrev pub next_victim : ℕ → ℕ → ℕ → ℕ
next_victim workers number v =
    cond (eqb (after workers v) number) (after workers number) (after workers v)

abbrev pub aim : ℕ → ℕ → Parts → Parts
aim workers number w = record w { victim = next_victim workers number w.victim }

-- by the answer of each call
abbrev pub rested : Parts → Standing → Moves
rested w Going = (to Taking w, Moved)
rested w Halted = (w, Stopped)
rested w Drained = (w, Stopped)

abbrev pub took : ℕ → Parts → Option (List ℕ) → Moves
took workers w None = (to (cond (ltb 1 workers) Stealing Resting) w, Idle)
took workers w (Some path) = (hold path w, Moved)

abbrev pub stole : ℕ → ℕ → Parts → Option (List ℕ) → Moves
stole workers number w None = (to Resting (aim workers number w), Idle)
stole workers number w (Some path) = (hold path (aim workers number w), Moved)

abbrev pub drew : Parts → Draw → Moves
drew w (Ticket t) = (to Bounding w, Drew)
drew w (Spent t) = (to Halting w, Moved)

abbrev pub looked : Parts → ℕ → Moves
looked w least = (record w { phase = ClosingNow; known = min w.known least }, Moved)

-- Resting where nothing waits
abbrev pub pushing_or_resting : List (List ℕ) → Phase
pushing_or_resting [] = Resting
pushing_or_resting (path ∷ paths) = Pushing

abbrev pub pushed : Parts → List (List ℕ) → Moves
pushed w front = (record w { phase = pushing_or_resting front; waiting = front }, Moved)

-- The closing of a path.

-- the loss of the plan of a path that gives each order a group
abbrev pub loss_at : Task → List ℕ → ℕ
loss_at task path = loss task.charge path task.ranked

-- whether prices are worth more than 60 * (known - 1)
abbrev pub exceeds : Task → ℕ → List ℕ → List ℤ → Bool
exceeds task known path prices =
    int_lt (pos 60 *ℤ (pos known -ℤ pos 1)) (worth task.mill task.charge task.ranked path prices)

abbrev pub first_prices : Task → List ℕ → List ℤ
first_prices task path = ascent_prices task.mill task.charge task.ranked path

abbrev pub second_prices : Task → List ℕ → List ℤ
second_prices task path = swept_prices task.mill task.charge task.ranked path

abbrev pub dead_loss_at : Task → List ℕ → ℕ
dead_loss_at task path = dead_loss task.mill task.charge task.ranked path

abbrev pub starts : Task → List ℕ → Bool
starts task path = starts_class_in (length path) task.ranked

-- what the store finds for a path with a live key, where the path ends at the start of a class
abbrev pub found_at : Task → Stored → Key → List ℕ → Option (List ℕ)
found_at task store key path =
    cond (starts task path) (path_of (found store.entries key (dead_loss_at task path))) None

-- what is noted of a path that is split
abbrev pub note_of : Task → Key → List ℕ → Noted
note_of task key path = record { key = key; dead = dead_loss_at task path; path = path }

abbrev pub noted : Task → Key → List ℕ → Option Noted
noted task key path = cond (starts task path) (Some (note_of task key path)) None

-- How a path is closed, where key is its live key and plan its plan in the file's order. Only what
-- is split or dominated asks for the key, and only a leaf that loses less asks for the plan.

-- whether a path is a leaf, and whether it loses less than the least known loss
abbrev pub is_leaf : Task → List ℕ → Bool
is_leaf task path = eqb (length path) (length task.ranked)

abbrev pub lowers : Task → ℕ → List ℕ → Bool
lowers task known path = is_leaf task path && ltb (loss_at task path) known

-- whether prices close a path that is no leaf
abbrev pub closes : Task → ℕ → List ℕ → Bool
closes task known path =
    cond (exceeds task known path (first_prices task path)) true
    (exceeds task known path (second_prices task path))

-- whether the live key of a path is asked for
abbrev pub asks : Task → ℕ → List ℕ → Bool
asks task known path =
    not (is_leaf task path) && not (closes task known path) && starts task path

abbrev pub verdict_leaf : Task → ℕ → List ℕ → List ℕ → Verdict
verdict_leaf task known plan path =
    cond (ltb (loss_at task path) known)
    (Better (record { plan = plan; loss = loss_at task path })) Plain

abbrev pub verdict_open : Task → Key → List ℕ → Option (List ℕ) → Verdict
verdict_open task key path None =
    Open (children task.mill task.ranked path) (noted task key path)
verdict_open task key path (Some other) = ByOther other

abbrev pub verdict_inner : Task → ℕ → Stored → Key → List ℕ → Verdict
verdict_inner task known store key path =
    cond (exceeds task known path (first_prices task path)) (ByPrices (first_prices task path))
    (cond (exceeds task known path (second_prices task path)) (ByPrices (second_prices task path))
    (verdict_open task key path (found_at task store key path)))

abbrev pub verdict : Task → ℕ → Stored → Key → List ℕ → List ℕ → Verdict
verdict task known store key plan path =
    cond (is_leaf task path) (verdict_leaf task known plan path)
    (verdict_inner task known store key path)

-- A worker once a path is recorded.

abbrev pub closing_of : Verdict → Closing
closing_of (Better start) = Leaf
closing_of Plain = Leaf
closing_of (ByPrices prices) = Priced prices
closing_of (ByOther other) = Dominated other
closing_of (Open paths _) = Split

abbrev pub entry_of : List ℕ → Verdict → Entry
entry_of path v = record { path = path; closing = closing_of v }

-- Full changes nothing
abbrev pub with_note : Stored → Option Noted → Stored
with_note store None = store
with_note store (Some note) =
    cond (ltb (length store.entries) store.room)
    (record { entries = store.entries ++ note ∷ []; room = store.room }) store

-- what a verdict makes of the other parts
abbrev pub apply : Verdict → Parts → Parts
apply (Better start) w =
    record w { phase = Publishing; known = start.loss; best = Some start }
apply Plain w = to Resting w
apply (ByPrices prices) w = to Resting w
apply (ByOther other) w = to Resting w
apply (Open paths note) w =
    record w { phase = pushing_or_resting paths; waiting = paths; store = with_note w.store note }

abbrev pub recorded_in : List ℕ → Verdict → Parts → Parts
recorded_in path v w = record w { held = None; piece = w.piece ++ entry_of path v ∷ [] }

abbrev pub commits : List ℕ → Parts → Verdict → Parts
commits path w v = apply v (recorded_in path v w)

-- without a path nothing is closed, which doesn't come
abbrev pub committed : Parts → Option (List ℕ) → Verdict → Moves
committed w None v = (to Resting w, Moved)
committed w (Some path) v = (commits path w v, Moved)

abbrev pub closed : Task → Key → List ℕ → Parts → Option (List ℕ) → Moves
closed task key plan w None = (to Resting w, Moved)
closed task key plan w (Some path) =
    (commits path w (verdict task w.known w.store key plan path), Moved)

-- a worker that holds no path yet, with a start's loss
abbrev pub new_worker : ℕ → ℕ → ℕ → ℕ → Parts
new_worker workers orders loss number = record {
  phase = Resting;
  held = None;
  waiting = [];
  piece = [];
  orders = orders;
  store = record { entries = []; room = 65536 };
  known = loss;
  victim = after workers number;
  best = None;
}

-- whether a verdict on a path of so many orders' tree has the lengths of a record
abbrev pub has_lengths : ℕ → List ℕ → Verdict → Bool
has_lengths orders path (Better start) = path_fits orders path
has_lengths orders path Plain = path_fits orders path
has_lengths orders path (ByPrices prices) =
    path_fits orders path && eqb (length path + length prices) orders
has_lengths orders path (ByOther other) =
    path_fits orders path && (path_fits orders other && eqb (length other) (length path))
has_lengths orders path (Open paths _) = path_fits orders path

-- the records with one more, where there is a path
abbrev pub and_recorded : List Entry → Option (List ℕ) → Closing → List Entry
and_recorded piece None closing = piece
and_recorded piece (Some path) closing = piece ++ record { path = path; closing = closing } ∷ []
