use Rattle.std.proofs.Common.{refl}
use Rattle.pair_split.specs.Tables.{mill_in}
use Rattle.pair_split.proofs.RowBits.{none-marked}
use Rattle.pair_split.proofs.OneMore.{table-next, front-next}
use Rattle.pair_split.proofs.table.add_order.Goals as goal

pub returns : goal.returns
returns c = record {
  table = table-next (mill_in c.args.layout) c.args.layout.words c.args.orders.now c.args.i
      c.requires.here c.requires.together _ _ refl
      (front-next c.args.orders.now c.args.i c.front_at.result c.front_at.ensures) c.args.old.now
      c.clear.new.words c.spread.new.new c.requires.table
      (λ s h. none-marked c.args.layout.words c.clear.new.words c.clear.ensures _ s.load)
      c.spread.ensures;
}
