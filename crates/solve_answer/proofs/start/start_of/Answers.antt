-- The greedy plan loses the most that a possible start may lose, and neither moves nor the walk
-- raise that; so what moves leave is a possible start, also behind the walk.
use Rattle.std.proofs.Common.{◌≡◌, ℕ, map, ap, ◌∙◌, arith}
use Rattle.mill_model.specs.Charges.{charge_of}
use Rattle.mill_model.specs.Rank.{ranked_orders}
use Rattle.mill_model.specs.Starts.{best_start_loss}
use Rattle.solve_answer.proofs.PossibleStarts.{moved-is-possible}
use Rattle.solve_answer.proofs.start.start_of.Goals as goal

pub pair_moves-requires-clause-start : goal.pair_moves-requires-clause-start
pair_moves-requires-clause-start c orders placed = record {
  legal = c.in_ok-greedy.ensures.legal orders placed;
  loses = c.in_ok-greedy.ensures.loses orders placed;
}

pub returns-clause-possible : goal.returns-clause-possible
returns-clause-possible c orders placed =
    let mill = c.args.ranked.now.mill in
    let charge : ℕ → ℕ = charge_of c.args.charges.now in
    let greedy : c.in_ok-greedy.greedy.loss ≡ best_start_loss mill charge (ranked_orders orders) =
    c.in_ok-greedy.ensures.least
    ∙ ap (λ list. best_start_loss mill charge (map (λ p. p.order) list)) placed in
    let moved = (c.in_ok-moved.ensures.no_worse orders placed).no_more in
    let walked = (c.in_ok-walked.ensures.no_worse orders placed).no_more in
    moved-is-possible mill charge orders c.args.moves c.in_ok-walked.walked c.in_ok-start.start
    c.in_ok-start.field-0-1 (omega (arith, greedy, moved, walked))
    (c.in_ok-start.ensures.no_worse orders placed) (c.in_ok-start.ensures.closed orders placed)
