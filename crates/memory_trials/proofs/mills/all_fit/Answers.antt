use Rattle.std.proofs.Common.{arith}
use Rattle.split_tree.proofs.LightOrders.{all-light, one-more-light}
use Rattle.memory_trials.proofs.mills.all_fit.Goals as goal

pub loop-rank-preserved : goal.loop-rank-preserved
loop-rank-preserved c =
    one-more-light c.args.ranked.now c.loop-rank.rank c.order.result c.loop-rank.invariant
    c.order.ensures.is (omega (arith, c.largest.ensures.is))

pub returns : goal.returns
returns c =
    λ yes. all-light c.args.ranked.now
    (λ i below. c.loop-rank.invariant i (omega (arith, below, c.len-rank-end.ensures.is)))
