-- How what is promised of a possible start goes with the moves.
use Rattle.std.specs.Prelude.{ℕ, suc, ◌+◌, ◌*◌, ◌/◌, ◌≤◌, ◌≡◌, true, List, length}
use Rattle.mill_model.specs.Pairs.{IsPossibleStart, IsStartBound, pair_closed}
use Rattle.mill_model.specs.Plan.{loss, IsLegalPlan}
use Rattle.mill_model.specs.Rank.{ranked_orders}
use Rattle.mill_model.specs.Slab.{Mill}
use Rattle.mill_model.specs.Starts.{best_start_loss}
use Rattle.mill_model.specs.declared.order.Order.{Order}

-- with no moves, any legal plan that loses no more than the better greedy plan is a possible start
abbrev pub NoMovesPromiseNothing : Type 0
NoMovesPromiseNothing = (mill : Mill) (charge : ℕ → ℕ) (orders : List Order) (plan : List ℕ) →
    IsLegalPlan mill orders plan →
    loss charge plan orders ≤ best_start_loss mill charge (ranked_orders orders) →
    IsPossibleStart mill charge orders 0 plan

-- the start bound doesn't rise with the moves
abbrev pub BoundFallsWithMoves : Type 0
BoundFallsWithMoves = (mill : Mill) (charge : ℕ → ℕ) (orders : List Order)
    (few many high low : ℕ) → few ≤ many → IsStartBound mill charge orders few high →
    IsStartBound mill charge orders many low → low ≤ high

-- with (B + 1) n (n + 1) / 2 moves, where B is what the better greedy plan of n orders loses, each
-- possible start has all its pairs closed
abbrev pub EnoughMovesCloseAll : Type 0
EnoughMovesCloseAll = (mill : Mill) (charge : ℕ → ℕ) (orders : List Order) (plan : List ℕ)
    (moves : ℕ) →
    (best_start_loss mill charge (ranked_orders orders) + 1) * length orders * suc (length orders)
    / 2 ≤ moves → IsPossibleStart mill charge orders moves plan →
    pair_closed mill charge orders plan ≡ true
