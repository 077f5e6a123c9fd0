use Rattle.std.proofs.Common.{◌<◌, length, arith}
use Rattle.order_symmetry.proofs.Plans.{read-more}
use Rattle.order_symmetry.proofs.laws.plan_in_rank.Goals as goal

pub loop-rank-preserved : goal.loop-rank-preserved
loop-rank-preserved c =
    let l : c.loop-rank.rank < length c.args.ranked.now.placed = omega arith in
    rw (c.in_ok-push.ensures.items, c.slabs-slabs.ensures)
    (read-more c.args.ranked.now c.args.plan.now c.loop-rank.read.items c.loop-rank.rank
    c.home.result l c.home.ensures.is c.loop-rank.invariant)
