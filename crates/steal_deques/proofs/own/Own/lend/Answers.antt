use Rattle.std.proofs.Common.{rules, ap}
use Rattle.steal_deques.specs.declared.rule.DequeView.{DequeView}
use Rattle.steal_deques.proofs.DequeKeeps.{lends}
use Rattle.steal_deques.proofs.own.Own.lend.Goals as goal

pub another-pass-requires : goal.another-pass-requires
another-pass-requires c = lends _ _
    (ap (λ (v : DequeView). v.opened) c.self.invariant.1)
    (ap (λ (v : DequeView). v.owns) c.self.invariant.1) (search rules)
