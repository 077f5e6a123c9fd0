use Rattle.std.proofs.Common.{◌<◌, vec_len}
use Rattle.plan_walk.proofs.hand.Hand.best_slot.Given as goal

abbrev pub invariant-loop-slot : goal.invariant-loop-slot
invariant-loop-slot l = l.best < vec_len l.self.slots
