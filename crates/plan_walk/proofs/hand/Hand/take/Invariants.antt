use Rattle.std.proofs.Common.{length}
use Rattle.std.specs.Prelude.{All}
use Rattle.plan_walk.specs.Taken.{IsTaken}
use Rattle.plan_walk.proofs.hand.Hand.take.Given as goal

abbrev pub invariant-loop-slab : goal.invariant-loop-slab
invariant-loop-slab l = All (IsTaken (length l.draft.links)) l.self.taken.items
