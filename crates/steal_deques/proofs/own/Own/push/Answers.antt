use Rattle.std.proofs.Common.{rules, ap}
use Rattle.steal_deques.specs.declared.rule.DequeView.{DequeView}
use Rattle.steal_deques.proofs.DequeKeeps.{pushes}
use Rattle.steal_deques.proofs.own.Own.push.Goals as goal

pub push_as-requires-clause-pushes : goal.push_as-requires-clause-pushes
push_as-requires-clause-pushes c = pushes _ _ c.args.path
    (ap (λ (v : DequeView). v.opened) c.self.invariant.1)
    (ap (λ (v : DequeView). v.owns) c.self.invariant.1)
    record { is = search rules }
