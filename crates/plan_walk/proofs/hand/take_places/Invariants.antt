use Rattle.std.proofs.Common.{length}
use Rattle.std.specs.Prelude.{All}
use Rattle.plan_walk.specs.Taken.{IsTaken}
use Rattle.plan_walk.proofs.hand.take_places.Given as goal

abbrev pub invariant-loop-place : goal.invariant-loop-place
invariant-loop-place l = All (IsTaken (length l.draft.links)) l.taken.items
