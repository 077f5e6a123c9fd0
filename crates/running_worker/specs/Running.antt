-- The hand of a running worker, and what the calls on it do: each changes and answers just what the
-- calls on the worker's own seats and ends say.
use Rattle.std.specs.Prelude.{ℕ, ◌+◌, ◌-◌, ◌≡◌, ◌≤◌, ◌<◌, ◌⊎◌, Bool, true, false, ◌||◌, cond, leb}
use Rattle.std.specs.Prelude.{ltb, min, List, [], ◌∷◌, ◌++◌, length, set, get_or, All, Option}
use Rattle.std.specs.Prelude.{Some, None}
use Rattle.std.specs.List.{AllByRecursion}
use Rattle.mill_io.specs.Causes.{one_more}
use Rattle.mill_model.specs.declared.limits.Standing.{Standing}
use Rattle.mill_model.specs.declared.limits.Standing.TheVariants.{Going, Halted, Drained}
use Rattle.order_symmetry.specs.Ranked.{RankedOrders}
use Rattle.search_step.specs.Serving.{Serving}
use Rattle.search_step.specs.declared.event.Event.{Event}
use Rattle.search_step.specs.declared.event.Event.TheVariants.{Took, Stole, Pushed, Refused}
use Rattle.search_step.specs.declared.event.Event.TheVariants.{Drew, Looked, Published}
use Rattle.search_step.specs.declared.event.Event.TheVariants.{Stopping, Stood}
use Rattle.shared_words.specs.Best.{IsLossSeatOf, LeastLoss, LossSeat}
use Rattle.shared_words.specs.Meter.{IsTicketSeatOf, TicketMeter, TicketSeat}
use Rattle.shared_words.specs.Meter.{draw_at, number_of, spend_of}
use Rattle.steal_deques.specs.Deque.{DequeOwner, DequeThief, HadFew, WasEmpty}

-- the ranked orders, a worker's number among so many, the words that all share, and the worker's
-- seats, its own end of its deque and its thieves of the others
pub record Running : Type 0 where
  pub ranked : RankedOrders
  pub number : ℕ
  pub workers : ℕ
  pub best : LeastLoss
  pub meter : TicketMeter
  pub loss_seat : LossSeat
  pub ticket_seat : TicketSeat
  pub own : DequeOwner
  pub thieves : List DequeThief

-- the worker is one of so many, its seats are of the words, its ends are for paths in the tree of
-- its orders, and there is a thief for each other worker
pub record IsRunning (h : Running) : Type 0 where
  pub among : h.number < h.workers
  pub few : h.workers ≤ 64
  pub losses : IsLossSeatOf h.best h.loss_seat
  pub tickets : IsTicketSeatOf h.meter h.ticket_seat
  pub own : h.own.ranked ≡ h.ranked
  pub others : length h.thieves + 1 ≡ h.workers
  pub thieves : AllByRecursion (λ thief. thief.ranked ≡ h.ranked) h.thieves

abbrev pub running_serves : Running → Serving
running_serves h = record {
  ranked = h.ranked;
  number = h.number;
  workers = h.workers;
  budget = h.meter.nodes;
}

-- a worker may draw while its seat may draw past the budget
abbrev pub running_may : Running → Bool
running_may h = leb 1 h.ticket_seat.spends

-- The thieves stand in the order of their deques' workers, and the worker itself has none.
abbrev pub place_of : ℕ → ℕ → ℕ
place_of number victim = cond (ltb victim number) victim (victim - 1)

-- a pop at the own end of a deque
abbrev pub Pops : DequeOwner → Option (List ℕ) → DequeOwner → Type 0
Pops own None after = (after ≡ own) × WasEmpty own
Pops own (Some path) after =
    (after ≡ record own { popped = own.popped ++ path ∷ [] })
    × (length after.popped ≤ length after.pushed)

-- one try of a thief
abbrev pub Tries : DequeThief → Option (List ℕ) → DequeThief → Type 0
Tries thief None after =
    (HadFew thief × (after ≡ thief)) ⊎ (after ≡ record thief { passed = one_more thief.passed })
Tries thief (Some path) after = after ≡ record thief { stolen = thief.stolen ++ path ∷ [] }

-- one try of the thief at a place
pub record Steals (thieves : List DequeThief) (place : ℕ) (path : Option (List ℕ))
    (after : List DequeThief) : Type 0 where
  pub there : place < length thieves
  pub thief : DequeThief
  pub is : get_or thieves place thief ≡ thief
  pub next : DequeThief
  pub tries : Tries thief path next
  pub became : after ≡ set thieves place next

-- the hand after a change at one of its seats or ends
abbrev pub with_losses : Running → LossSeat → Running
with_losses h seat = record h { loss_seat = seat }

abbrev pub with_tickets : Running → TicketSeat → Running
with_tickets h seat = record h { ticket_seat = seat }

abbrev pub with_own : Running → DequeOwner → Running
with_own h own = record h { own = own }

abbrev pub with_thieves : Running → List DequeThief → Running
with_thieves h thieves = record h { thieves = thieves }

-- an answer of the least loss is at most the start and all that the seat saw or published
pub record IsToldTo (h : Running) (loss : ℕ) : Type 0 where
  pub start : loss ≤ h.best.start
  pub seen : loss ≤ h.loss_seat.seen
  pub mine : All (λ other. loss ≤ other) h.loss_seat.mine

abbrev pub is_halted : Standing → Bool
is_halted Going = false
is_halted Halted = true
is_halted Drained = false

-- a halt is answered always after the seat called one or heard of one
pub record Hears (seat : TicketSeat) (answer : Standing) : Type 0 where
  pub mark : seat.mark ≡ true → is_halted answer ≡ true
  pub again : seat.heard ≡ true → is_halted answer ≡ true

abbrev pub running_did : Running → Event → Running → Type 0
running_did h (Took path) h' = Pops h.own path h'.own × (h' ≡ with_own h h'.own)
running_did h (Stole victim path) h' =
    Steals h.thieves (place_of h.number victim) path h'.thieves
    × (h' ≡ with_thieves h h'.thieves)
running_did h (Pushed path) h' =
    h' ≡ with_own h (record h.own { pushed = h.own.pushed ++ path ∷ [] })
running_did h (Refused path) h' = h' ≡ h
running_did h (Drew draw) h' =
    (draw ≡ draw_at h.meter.nodes (number_of draw))
    × (h' ≡ with_tickets h (record h.ticket_seat {
      spends = h.ticket_seat.spends - spend_of draw;
      tickets = h.ticket_seat.tickets ++ number_of draw ∷ [];
    }))
running_did h (Looked least) h' =
    IsToldTo h least × (h' ≡ with_losses h (record h.loss_seat { seen = least }))
running_did h (Published loss before) h' =
    IsToldTo h before
    × (h' ≡ with_losses h (record h.loss_seat {
      seen = min loss before;
      mine = h.loss_seat.mine ++ loss ∷ [];
    }))
running_did h Stopping h' = h' ≡ with_tickets h (record h.ticket_seat { mark = true })
running_did h (Stood answer) h' =
    Hears h.ticket_seat answer
    × (h' ≡ with_tickets h (record h.ticket_seat {
      heard = h.ticket_seat.heard || is_halted answer;
    }))
