use Rattle.std.proofs.Common.{arith}
use Rattle.mill_model.proofs.Sizes.{largest-small}
use Rattle.plan_walk.proofs.draft.Draft.empty_slab.Goals as goal

pub empty-requires-clause-size_limit : goal.empty-requires-clause-size_limit
empty-requires-clause-size_limit c =
    let kept = c.largest.ensures.kept in
    let small = largest-small c.args.self.now.instance.now.sizes kept.within.each_size in
    omega (arith, small, c.largest.ensures.is)
