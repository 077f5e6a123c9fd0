use Rattle.std.proofs.Common.{◌≡◌}
use Rattle.plan_walk.proofs.walk.Walker.walk.Given as goal

abbrev pub invariant-loop-step : goal.invariant-loop-step
invariant-loop-step l = l.self.draft.instance.now ≡ l.initial.self.draft.instance.now
