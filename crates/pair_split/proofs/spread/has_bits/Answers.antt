use Rattle.std.proofs.Common.{arith}
use Rattle.pair_split.proofs.RowBits.{row-zero}
use Rattle.pair_split.proofs.spread.has_bits.Goals as goal

pub returns : goal.returns
returns c e =
    row-zero c.args.words c.args.table.now c.args.r
    (λ j h. c.loop-k.invariant j (omega (arith, h, c.loop-k-test.false)))
