use Rattle.std.proofs.Common.{◌≤◌, vec_len}
use Rattle.plan_walk.proofs.splits.Splits.double.Given as goal

abbrev pub invariant-loop-set : goal.invariant-loop-set
invariant-loop-set l = l.set-end ≤ vec_len l.self.parts
