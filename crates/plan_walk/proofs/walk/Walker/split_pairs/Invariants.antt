use Rattle.std.proofs.Common.{◌≡◌}
use Rattle.plan_walk.proofs.walk.Walker.split_pairs.Given as goal

abbrev pub invariant-loop : goal.invariant-loop
invariant-loop l = l.self.draft.instance.now ≡ l.initial.self.draft.instance.now
