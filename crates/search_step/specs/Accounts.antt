-- What a step keeps: no path is lost, none comes from nowhere, and the tickets are the records.
use Rattle.std.specs.Prelude.{ℕ, ◌+◌, ◌≡◌, List, [], ◌∷◌, ◌++◌, length, Option, Some, None}
use Rattle.std.specs.Prelude.{option_to_list}
use Rattle.list_laws.specs.Sets.{times, same_list}
use Rattle.mill_model.specs.Log.{Task, recorded, split_children}
use Rattle.search_step.specs.Parts.{Parts}
use Rattle.mill_model.specs.Charges.{ChargeTable}
use Rattle.order_symmetry.specs.Ranked.{RankedOrders}
use Rattle.search_step.specs.Steps.{IsSafe, task_at}
use Rattle.search_step.specs.declared.event.Event.{Event}
use Rattle.search_step.specs.declared.event.Event.TheVariants.{Took, Stole, Pushed, Refused}
use Rattle.search_step.specs.declared.event.Event.TheVariants.{Drew as DrewEvent, Looked, Published}
use Rattle.search_step.specs.declared.event.Event.TheVariants.{Stopping, Stood}
use Rattle.mill_model.specs.declared.limits.Draw.{Draw}
use Rattle.mill_model.specs.declared.limits.Draw.TheVariants.{Ticket, Spent}
use Rattle.search_step.specs.declared.parts.Phase.{Phase}
use Rattle.search_step.specs.declared.parts.Phase.TheVariants.{Resting, Taking, Stealing, Holding}
use Rattle.search_step.specs.declared.parts.Phase.TheVariants.{Halting, Ended, Bounding}
use Rattle.search_step.specs.declared.parts.Phase.TheVariants.{Closing as ClosingNow, Publishing}
use Rattle.search_step.specs.declared.parts.Phase.TheVariants.{Pushing}
use Rattle.search_step.specs.declared.parts.Turn.{Turn}
use Rattle.search_step.specs.declared.parts.Turn.TheVariants.{Stopped}

-- the path that an event brought in, and the one that went out
abbrev pub came : Option Event → List (List ℕ)
came None = []
came (Some (Took path)) = option_to_list path
came (Some (Stole v path)) = option_to_list path
came (Some (Pushed path)) = []
came (Some (Refused path)) = []
came (Some (DrewEvent draw)) = []
came (Some (Looked n)) = []
came (Some (Published n m)) = []
came (Some Stopping) = []
came (Some (Stood s)) = []

abbrev pub went : Option Event → List (List ℕ)
went None = []
went (Some (Took path)) = []
went (Some (Stole v path)) = []
went (Some (Pushed path)) = path ∷ []
went (Some (Refused path)) = []
went (Some (DrewEvent draw)) = []
went (Some (Looked n)) = []
went (Some (Published n m)) = []
went (Some Stopping) = []
went (Some (Stood s)) = []

abbrev pub ticket : Draw → ℕ
ticket (Ticket t) = 1
ticket (Spent t) = 0

abbrev pub tickets : Option Event → ℕ
tickets None = 0
tickets (Some (Took path)) = 0
tickets (Some (Stole v path)) = 0
tickets (Some (Pushed path)) = 0
tickets (Some (Refused path)) = 0
tickets (Some (DrewEvent draw)) = ticket draw
tickets (Some (Looked n)) = 0
tickets (Some (Published n m)) = 0
tickets (Some Stopping) = 0
tickets (Some (Stood s)) = 0

-- one where a ticket was drawn whose path is not yet recorded
abbrev pub in_work : Phase → ℕ
in_work Resting = 0
in_work Taking = 0
in_work Stealing = 0
in_work Holding = 0
in_work Halting = 0
in_work Ended = 0
in_work Bounding = 1
in_work ClosingNow = 1
in_work Publishing = 0
in_work Pushing = 0

-- the recorded, held and waiting paths
abbrev pub own_paths : Parts → List (List ℕ)
own_paths w = recorded w.piece ++ (option_to_list w.held ++ w.waiting)

-- the paths after, the children of the splits before and what went out are the paths before, the
-- children of the splits after and what came in
pub record Accounts (task : Task) (w w' : Parts) (e : Option Event) : Type 0 where
  pub paths : (x : List ℕ) →
      times same_list x (own_paths w') + times same_list x (split_children task w.piece) + times
      same_list x (went e) ≡ times same_list x (own_paths w) + times same_list x
      (split_children task w'.piece) + times same_list x (came e)
  pub records : length w'.piece + in_work w'.phase ≡ length w.piece + in_work w.phase + tickets e

abbrev pub DidMaybe : {H : Type 0} → (H → Event → H → Type 0) → H → Option Event → H → Type 0
DidMaybe did h None h' = h' ≡ h
DidMaybe did h (Some e) h' = did h e h'

-- a step's event, with what it keeps
pub record Keeps {H : Type 0} (did : H → Event → H → Type 0) (ranked : RankedOrders)
    (charges : ChargeTable) (workers number : ℕ) (w : Parts) (h : H) (turn : Turn) (w' : Parts)
    (h' : H) : Type 0 where
  pub event : Option Event
  pub happened : DidMaybe did h event h'
  pub accounts : Accounts (task_at ranked charges) w w' event
  pub safe : IsSafe ranked charges workers number w'
  pub stopped : turn ≡ Stopped → in_work w'.phase ≡ 0
