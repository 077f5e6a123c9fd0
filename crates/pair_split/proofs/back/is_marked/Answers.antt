use Rattle.std.proofs.Common.{arith}
use Rattle.pair_split.proofs.Pushed.{row-inside-at}
use Rattle.pair_split.proofs.WayBack.{marked-tests}
use Rattle.pair_split.proofs.back.is_marked.Goals as goal

pub bounds-table-row_of : goal.bounds-table-row_of
bounds-table-row_of c =
    let inside = row-inside-at c.args.state c.args.layout.p c.args.layout.words _ _
    c.requires.within.few c.requires.within.few_others c.args.layout.few c.row_of.ensures
    c.requires.size in
    omega (arith, inside, c.requires.within.light, c.args.layout.wide)

pub returns : goal.returns
returns c = marked-tests c.args.layout.words c.args.table.now c.args.state c.row_of.result
    c.row_of.ensures
