use Rattle.pair_split.proofs.GatheredLoads.{gather-one}
use Rattle.pair_split.proofs.loads.gather_row.Goals as goal

pub returns : goal.returns
returns c =
    gather-one c.args.words c.args.table.now c.args.loads.now c.shift_or.new.to c.args.r
    c.requires.loads c.shift_or.ensures.shifted
