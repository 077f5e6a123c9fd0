use Rattle.core_replay.proofs.DequeChanges.{empty-in-tree}
use Rattle.core_replay.proofs.deques.Deques.new.Goals as goal

pub invariant_of-result : goal.invariant_of-result
invariant_of-result c =
    empty-in-tree c.args.ranked.now c.loop.deques.items c.loop.counter c.loop.invariant
