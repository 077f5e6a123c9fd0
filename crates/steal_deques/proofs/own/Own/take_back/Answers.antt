use Rattle.std.proofs.Common.{ap}
use Rattle.steal_deques.specs.declared.rule.DequeView.{DequeView}
use Rattle.steal_deques.proofs.DequeKeeps.{takes_back}
use Rattle.steal_deques.proofs.own.Own.take_back.Goals as goal

pub absorb-requires-clause-rule : goal.absorb-requires-clause-rule
absorb-requires-clause-rule c = takes_back _ _ _ _
    (ap (λ (v : DequeView). v.opened) c.self.invariant.1)
    (ap (λ (v : DequeView). v.owns) c.self.invariant.1)
