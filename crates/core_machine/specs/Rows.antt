-- Runs of a small machine, computed. The orders are (1, 1), (1, 2) and (2, 3) with two colours a
-- slab and the one size 4, in rank (2, 3), (1, 1), (1, 2). Their least loss is 4, which the workers
-- know from the start.
use Rattle.std.specs.Prelude.{ℕ, ◌≡◌, true, List, [], ◌∷◌, map, Some, None}
use Rattle.mill_model.specs.Charges.{ChargeTable}
use Rattle.mill_model.specs.Log.{recorded}
use Rattle.mill_model.specs.Rank.{rank}
use Rattle.mill_model.specs.Small.{three_mill, three_orders}
use Rattle.order_symmetry.specs.Ranked.{RankedOrders}
use Rattle.split_tree.specs.Keys.{padded}
use Rattle.core_machine.specs.Core.{Core, after_rounds, after_schedule, pieces_of, start_state}
use Rattle.core_machine.specs.Places.{live_key_at, plan_at}

abbrev pub three : RankedOrders
three = record { placed = rank three_orders; mill = three_mill }

-- the charges of the loads from 0 to 4
abbrev pub four_charges : List ℕ
four_charges = 0 ∷ 3 ∷ 2 ∷ 1 ∷ 0 ∷ []

-- worker 1 four times: it rests, finds its own deque empty, steals the empty path and draws a
-- ticket for it
abbrev pub one_and_again : List ℕ
one_and_again = 1 ∷ 1 ∷ 1 ∷ 1 ∷ []

-- of two workers with one ticket and the loss 4
abbrev pub two_after : ChargeTable → List ℕ → Core
two_after charges schedule = after_schedule three charges 1 (start_state three 2 4) schedule

abbrev pub HoldsWhatItStole : Type 0
HoldsWhatItStole =
    (charges : ChargeTable) → charges.list ≡ four_charges →
    map (λ w. w.held) (two_after charges one_and_again).workers ≡ None ∷ Some [] ∷ []

-- twelve rounds later all is over, and the one record is in the piece of the worker that stole
abbrev pub ThiefRecords : Type 0
ThiefRecords =
    (charges : ChargeTable) → charges.list ≡ four_charges →
    map recorded (pieces_of (after_rounds three charges 1 12 (two_after charges one_and_again)).0)
    ≡ [] ∷ ([] ∷ []) ∷ []

-- with no schedule it is in the piece of worker 0
abbrev pub FirstRecords : Type 0
FirstRecords =
    (charges : ChargeTable) → charges.list ≡ four_charges →
    map recorded (pieces_of (after_rounds three charges 1 12 (two_after charges [])).0)
    ≡ ([] ∷ []) ∷ [] ∷ []

-- one worker with enough tickets is done within thirty rounds, after four records
abbrev pub DoneAlone : Type 0
DoneAlone =
    (charges : ChargeTable) → charges.list ≡ four_charges →
    (after_rounds three charges 1000 30 (start_state three 1 4)).1 ≡ true

abbrev pub RecordsAlone : Type 0
RecordsAlone =
    (charges : ChargeTable) → charges.list ≡ four_charges →
    map recorded (pieces_of (after_rounds three charges 1000 30 (start_state three 1 4)).0)
    ≡ ([] ∷ (0 ∷ []) ∷ (0 ∷ 0 ∷ []) ∷ (0 ∷ 1 ∷ []) ∷ []) ∷ []

-- from a start that loses 9 it finds a plan that loses 4, with the order (1, 2) alone
abbrev pub FindsAPlan : Type 0
FindsAPlan =
    (charges : ChargeTable) → charges.list ≡ four_charges →
    map (λ w. w.best) (after_rounds three charges 1000 60 (start_state three 1 9)).0.workers
    ≡ Some (record { plan = 0 ∷ 1 ∷ 0 ∷ []; loss = 4 }) ∷ []

abbrev pub PublishesItsLoss : Type 0
PublishesItsLoss =
    (charges : ChargeTable) → charges.list ≡ four_charges →
    (after_rounds three charges 1000 60 (start_state three 1 9)).0.shared.least ≡ 4

-- the plan of a leaf, whose numbers are those of (2, 3), (1, 1) and (1, 2)
abbrev pub PlanInTheFile : Type 0
PlanInTheFile = plan_at three (0 ∷ 1 ∷ 2 ∷ []) ≡ 1 ∷ 2 ∷ 0 ∷ []

-- the live key of a path that has (2, 3) in group 0 and (1, 1) in group 1: the order (1, 2) that is
-- still to come may join either, and the lighter group stands first
abbrev pub KeyInOrder : Type 0
KeyInOrder =
    live_key_at three (0 ∷ 1 ∷ []) ≡ record {
      depth = 2;
      groups =
          record { load = 1; colours = 1; coming = padded [] }
          ∷ record { load = 2; colours = 1; coming = padded [] }
          ∷ [];
    }
