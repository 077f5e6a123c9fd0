use Rattle.std.proofs.Common.{arith}
use Rattle.pair_split.proofs.GatheredLoads.{row-fits-in}
use Rattle.pair_split.proofs.loads.gather_second.Goals as goal

pub gather_row-requires-clause-row : goal.gather_row-requires-clause-row
gather_row-requires-clause-row c =
    row-fits-in c.loop-r.r c.args.first c.args.layout.p c.args.layout.words _ c.requires.few
    c.args.layout.few (omega (arith, c.loop-r-test.true)) c.requires.size
