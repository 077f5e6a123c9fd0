-- More moves promise more: the tries that are sure to be left rise with them, and as many first
-- pairs are closed.
use Rattle.std.proofs.Common.{ℕ, ◌+◌, ◌-◌, ◌*◌, ◌≤◌, ◌≡◌, true, List, length, take, subst, refl}
use Rattle.std.proofs.Common.{arith, mul-le-mul_right}
use Rattle.std.proofs.lemmas.List.{take-take, take_all}
use Rattle.mill_model.specs.Pairs.{IsPossibleStart, all_closed, first_closed}
use Rattle.mill_model.specs.Pairs.{pairs_of, sure_tries}
use Rattle.mill_model.specs.Plan.{loss}
use Rattle.mill_model.specs.Rank.{ranked_orders}
use Rattle.mill_model.specs.Slab.{Mill}
use Rattle.mill_model.specs.Starts.{best_start_loss}
use Rattle.mill_model.specs.declared.order.Order.{Order}
use Rattle.large_moves.specs.Laws.{NoMovesPromiseNothing, BoundFallsWithMoves, EnoughMovesCloseAll}
use Rattle.large_moves.proofs.Betters.{plan-length}
use Rattle.large_moves.proofs.Scanned.{all-take-any, half-is, pairs-few, sure-is, triangle}

-- the more is gained, the fewer tries are sure to be left
pub fewer-tries : (moves gain more n : ℕ) → gain ≤ more →
    sure_tries moves more n ≤ sure_tries moves gain n
fewer-tries moves gain more n up =
    let here = sure-is moves gain n in
    let there = sure-is moves more n in
    let times : gain * triangle n ≤ more * triangle n = mul-le-mul_right (triangle n) up in
    omega (arith, here, there, times)

-- of the first pairs the first ones are closed
pub fewer-closed : (mill : Mill) (charge : ℕ → ℕ) (orders : List Order) (plan : List ℕ)
    (few many : ℕ) → few ≤ many → first_closed mill charge orders plan many ≡ true →
    first_closed mill charge orders plan few ≡ true
fewer-closed mill charge orders plan few many up closed =
    subst (λ pairs. all_closed mill charge orders plan pairs ≡ true)
    (take-take few many (pairs_of plan) up)
    (all-take-any _ few (take many (pairs_of plan)) closed)

-- a possible start for some moves is one for fewer
fewer-moves : (mill : Mill) (charge : ℕ → ℕ) (orders : List Order) (plan : List ℕ)
    (few many : ℕ) → few ≤ many → IsPossibleStart mill charge orders many plan →
    IsPossibleStart mill charge orders few plan
fewer-moves mill charge orders plan few many up possible = record {
  is_legal = possible.is_legal;
  at_most = possible.at_most;
  closed =
      let gain : ℕ = best_start_loss mill charge (ranked_orders orders) - loss charge plan orders in
      let here = sure-is few gain (length orders) in
      let there = sure-is many gain (length orders) in
      fewer-closed mill charge orders plan (sure_tries few gain (length orders))
      (sure_tries many gain (length orders)) (omega (arith, up, here, there)) possible.closed;
}

pub no-moves : NoMovesPromiseNothing
no-moves mill charge orders plan is_legal at_most = record {
  is_legal = is_legal;
  at_most = at_most;
  closed =
      let gain : ℕ = best_start_loss mill charge (ranked_orders orders) - loss charge plan orders in
      let none : 0 ≡ sure_tries 0 gain (length orders) = omega arith in
      subst (λ (r : ℕ). first_closed mill charge orders plan r ≡ true) none refl;
}

pub bound-falls : BoundFallsWithMoves
bound-falls mill charge orders few many high low up above below =
    let start = below.reached in
    let most = above.greatest start.0 (fewer-moves mill charge orders start.0 few many up start.1)
    in
    omega (arith, most, start.2)

pub enough-moves : EnoughMovesCloseAll
enough-moves mill charge orders plan moves enough possible =
    let most : ℕ = best_start_loss mill charge (ranked_orders orders) in
    let gain : ℕ = most - loss charge plan orders in
    let n : ℕ = length orders in
    let long = plan-length mill orders plan possible.is_legal in
    let few : length (pairs_of plan) ≤ triangle n =
    subst (λ n. length (pairs_of plan) ≤ triangle n) long (pairs-few plan) in
    let whole = half-is (most + 1) n in
    let sure = sure-is moves gain n in
    let more : (gain + 1) * triangle n ≤ (most + 1) * triangle n =
    mul-le-mul_right (triangle n) (omega arith) in
    let one : (gain + 1) * triangle n ≡ gain * triangle n + triangle n = grind arith in
    subst (λ pairs. all_closed mill charge orders plan pairs ≡ true)
    (take_all (sure_tries moves gain n) (pairs_of plan)
    (omega (arith, few, whole, enough, sure, more, one))) possible.closed
