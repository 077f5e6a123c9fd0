use Rattle.pair_split.proofs.ShiftedBits.{joined-high, joined-low}
use Rattle.pair_split.proofs.words.joined.Goals as goal

pub returns-clause-high : goal.returns-clause-high
returns-clause-high c i from below =
    joined-high c.args.high c.args.low c.args.part i c.ranges.low.fits c.requires from below

pub returns-clause-low : goal.returns-clause-low
returns-clause-low c i below = joined-low c.args.high c.args.low c.args.part i c.requires below
