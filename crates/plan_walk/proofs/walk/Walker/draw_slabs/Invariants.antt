use Rattle.std.proofs.Common.{◌≡◌}
use Rattle.plan_walk.proofs.walk.Walker.draw_slabs.Given as goal

abbrev pub invariant-loop : goal.invariant-loop
invariant-loop l = l.self.draft ≡ l.initial.self.draft

abbrev pub invariant-loop-2 : goal.invariant-loop-2
invariant-loop-2 l = l.self.draft ≡ l.initial.self.draft
