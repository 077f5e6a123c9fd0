use Rattle.pair_split.proofs.RowBits.{row-kept, row-len, row-shifted, row-low}
use Rattle.pair_split.proofs.spread.shift_row.Goals as goal

pub returns-clause-shifted : goal.returns-clause-shifted
returns-clause-shifted c =
    row-shifted c.args.words c.args.to c.args.from c.args.weight c.args.new.now c.args.old.now
    c.shift_or.new.to c.requires.to c.shift_or.auto.to c.shift_or.ensures.shifted

pub returns-clause-low : goal.returns-clause-low
returns-clause-low c =
    row-low c.args.words c.args.to c.args.from c.args.weight c.args.new.now c.args.old.now
    c.shift_or.new.to c.requires.to c.shift_or.auto.to c.shift_or.ensures.low

pub returns-clause-others : goal.returns-clause-others
returns-clause-others c =
    row-kept c.args.words c.args.new.now c.args.to c.shift_or.new.to c.requires.to
    (row-len c.args.words c.args.to c.args.from c.args.weight c.args.new.now c.args.old.now
    c.shift_or.new.to c.requires.to c.shift_or.auto.to)
