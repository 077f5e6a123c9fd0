use Rattle.std.proofs.Common.{subst}
use Rattle.pair_split.specs.Tables.{Pushes, mill_in}
use Rattle.pair_split.proofs.Pushed.{spread-layer, row-inside-at}
use Rattle.pair_split.proofs.spread.spread_row.Goals as goal

pub returns : goal.returns
returns c =
    spread-layer c.args.layout.largest c.args.layout.p c.args.layout.words c.args.weight
    c.args.same c.args.old.now c.args.new.now c.push.new.new c.push-2.new.new c.args.from
    c.requires.from c.requires.few.0 c.requires.few.1
    (subst (λ a. Pushes (mill_in c.args.layout) c.args.layout.words c.args.old.now c.args.new.now
    c.push.new.new c.args.from a) c.on_first.ensures c.push.ensures)
    (subst (λ a. Pushes (mill_in c.args.layout) c.args.layout.words c.args.old.now c.push.new.new
    c.push-2.new.new c.args.from a) c.on_second.ensures c.push-2.ensures)

pub has_bits-requires : goal.has_bits-requires
has_bits-requires c =
    row-inside-at c.args.from c.args.layout.p c.args.layout.words _ _ c.requires.few.0
    c.requires.few.1 c.args.layout.few c.row_of.ensures c.requires.old
