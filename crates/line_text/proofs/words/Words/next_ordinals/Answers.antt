use Rattle.std.proofs.Common.{◌<◌, ◌∙◌, length, arith, sym}
use Rattle.line_text.specs.Numbers.{ordinal}
use Rattle.line_text.proofs.Items.{none-longer}
use Rattle.line_text.proofs.words.Words.next_ordinals.Goals as goal

pub returns-in-None-clause-none : goal.returns-in-None-clause-none
returns-in-None-clause-none c things count limit begins =
    let shorter : length c.loop.things.items < length things =
    omega (arith, c.loop.invariant.count) in
    none-longer ordinal (λ thing. thing < c.args.most) c.loop.things.items things c.loop.ahead
    begins.more (sym c.loop.invariant.read ∙ begins.is) shorter limit c.in-None.ensures.none
