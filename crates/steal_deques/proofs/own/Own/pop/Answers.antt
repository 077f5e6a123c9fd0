use Rattle.std.proofs.Common.{ap}
use Rattle.steal_deques.specs.declared.rule.DequeView.{DequeView}
use Rattle.steal_deques.proofs.DequeKeeps.{pops}
use Rattle.steal_deques.proofs.own.Own.pop.Goals as goal

pub pop_as-requires-clause-lifo : goal.pop_as-requires-clause-lifo
pop_as-requires-clause-lifo c = λ _. pops _ _
    (ap (λ (v : DequeView). v.opened) c.self.invariant.1)
    (ap (λ (v : DequeView). v.owns) c.self.invariant.1)
