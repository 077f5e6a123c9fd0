use Rattle.std.proofs.Common.{rules, ap}
use Rattle.steal_deques.specs.declared.rule.DequeView.{DequeView}
use Rattle.steal_deques.proofs.DequeKeeps.{steals}
use Rattle.steal_deques.proofs.thief.Thief.steal.Goals as goal

pub steal_as-requires-clause-takes : goal.steal_as-requires-clause-takes
steal_as-requires-clause-takes c = steals _ _
    (ap (λ (v : DequeView). v.opened) c.self.invariant.2)
    (ap (λ (v : DequeView). v.owns) c.self.invariant.2) (search rules)
