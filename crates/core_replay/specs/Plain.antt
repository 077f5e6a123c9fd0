-- The plain hand, and what the calls on it do.
use Rattle.std.specs.Prelude.{ℕ, ◌+◌, ◌-◌, ◌^◌, ◌≡◌, Bool, true, false, [], min, replicate}
use Rattle.order_symmetry.specs.Ranked.{RankedOrders}
use Rattle.search_step.specs.Moves.{last_of}
use Rattle.search_step.specs.Serving.{Serving, draw_at}
use Rattle.search_step.specs.declared.event.Event.{Event}
use Rattle.search_step.specs.declared.event.Event.TheVariants.{Took, Stole, Pushed, Refused}
use Rattle.search_step.specs.declared.event.Event.TheVariants.{Drew, Looked, Published}
use Rattle.search_step.specs.declared.event.Event.TheVariants.{Stopping, Stood}
use Rattle.core_machine.specs.Core.{Shared, deque, first_of, standing}
use Rattle.core_machine.specs.Core.{with_taken, with_stolen, with_pushed, with_least, with_halt}

-- the ranked orders, what the workers share, and the budget of tickets; the worker that it serves,
-- of how many, and whether some worker is busy
pub record Plain : Type 0 where
  pub ranked : RankedOrders
  pub shared : Shared
  pub budget : ℕ
  pub number : ℕ
  pub workers : ℕ
  pub busy : Bool

-- a hand that serves worker 0, with empty deques and no halt
abbrev pub new_hand : RankedOrders → ℕ → ℕ → ℕ → ℕ → Plain
new_hand ranked workers loss nodes drawn = record {
  ranked = ranked;
  shared = record {
    deques = replicate workers [];
    least = loss;
    drawn = drawn;
    halted = false;
  };
  budget = nodes;
  number = 0;
  workers = workers;
  busy = false;
}

-- serving another worker
abbrev pub serving : ℕ → Bool → Plain → Plain
serving number busy h = record h { number = number; busy = busy }

abbrev pub plain_serves : Plain → Serving
plain_serves h = record {
  ranked = h.ranked;
  number = h.number;
  workers = h.workers;
  budget = h.budget;
}

-- a worker may always draw
abbrev pub plain_may : Plain → Bool
plain_may h = true

-- one more ticket is drawn, but for the greatest number of 64 bits, which stays
abbrev pub with_ticket : Shared → Shared
with_ticket s = record s { drawn = min (s.drawn + 1) (2 ^ 64 - 1) }

-- the hand after a change of what is shared
abbrev pub sharing : Plain → Shared → Plain
sharing h s = record h { shared = s }

-- Each call's answer is that of the lists and numbers before it, and each call changes just these
-- of them.
abbrev pub plain_did : Plain → Event → Plain → Type 0
plain_did h (Took path) h' =
    (path ≡ last_of (deque h.shared h.number))
    × (h' ≡ sharing h (with_taken h.shared h.number))
plain_did h (Stole victim path) h' =
    (path ≡ first_of (deque h.shared victim))
    × (h' ≡ sharing h (with_stolen h.shared victim))
plain_did h (Pushed path) h' = h' ≡ sharing h (with_pushed h.shared h.number path)
plain_did h (Refused path) h' = h' ≡ h
plain_did h (Drew draw) h' =
    (draw ≡ draw_at h.budget h.shared.drawn) × (h' ≡ sharing h (with_ticket h.shared))
plain_did h (Looked least) h' = (least ≡ h.shared.least) × (h' ≡ h)
plain_did h (Published loss before) h' =
    (before ≡ h.shared.least) × (h' ≡ sharing h (with_least h.shared loss))
plain_did h Stopping h' = h' ≡ sharing h (with_halt h.shared)
plain_did h (Stood answer) h' = (answer ≡ standing h.busy h.shared) × (h' ≡ h)
