use Rattle.std.proofs.Common.{◌≡◌, suc, ◌+◌, ◌*◌, ap, ◌∙◌, arith}
use Rattle.instance_drill.specs.Draws.{next_state}
use Rattle.instance_drill.proofs.draws.Draws.order.Goals as goal

pub returns-clause-state : goal.returns-clause-state
returns-clause-state c = λ seed place at.
    let twice : 2 * (place + 1) ≡ suc (suc (2 * place)) = omega arith in
    rw twice (c.draw-2.ensures.state ∙ ap next_state (c.draw.ensures.state ∙ ap next_state at))
