use Rattle.pair_split.proofs.Pushed.{row-inside-at, pushed-at}
use Rattle.pair_split.proofs.spread.push.Goals as goal

pub shift_row-requires-clause-to : goal.shift_row-requires-clause-to
shift_row-requires-clause-to c =
    row-inside-at c.args.after c.args.layout.p c.args.layout.words _ _ c.if-after-layout.false
    c.if-after-layout-2.false c.args.layout.few c.row_of.ensures c.requires.size

pub shift_row-requires-clause-from : goal.shift_row-requires-clause-from
shift_row-requires-clause-from c =
    row-inside-at c.args.before c.args.layout.p c.args.layout.words _ _ c.requires.before.0
    c.requires.before.1 c.args.layout.few c.row_of-2.ensures c.requires.old

pub returns : goal.returns
returns c =
    pushed-at c.args.layout.largest c.args.layout.p c.args.layout.words c.args.layout.few
    c.args.layout.wide c.args.old.now c.args.new.now c.shift_row.new.new c.args.before c.args.after
    c.if-after-layout.false c.if-after-layout-2.false c.row_of.result c.row_of-2.result
    c.row_of.ensures c.row_of-2.ensures c.shift_row.ensures.shifted c.shift_row.ensures.low
    c.shift_row.ensures.others
