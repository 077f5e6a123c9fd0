use Rattle.std.proofs.Common.{◌+◌, get_or, pos}
use Rattle.std.proofs.Common.{SFits, w64, to_z-of_z, rules}
use Rattle.set_minima.specs.Cells.{cell}
use Rattle.least_slacks.specs.Items.{item_at}
use Rattle.least_slacks.proofs.ItemsLetIn.{layer-single}
use Rattle.least_slacks.proofs.colour_layers.raise_by_order.Goals as goal

pub raise_cells-requires-clause-price : goal.raise_cells-requires-clause-price
raise_cells-requires-clause-price c =
    let place = (item_at c.args.later.now.items.now c.args.at).place in
    let f : SFits w64 (get_or c.args.later.now.prices.now place (pos 0)) = search rules in
    simp to_z-of_z (c.requires.later.priced place)

pub returns-clause-raised : goal.returns-clause-raised
returns-clause-raised c =
    let later = c.args.later.now in
    let place = (item_at later.items.now c.args.at).place in
    let f : SFits w64 (get_or later.prices.now place (pos 0)) = search rules in
    let e = simp to_z-of_z at c.raise_cells.ensures.cells in
    record {
      best = λ letting colour k run below here.
          layer-single later.rest.now later.prices.now later.items.now
          c.requires.later.sorted c.requires.later.same letting c.args.at colour k c.args.loads
          c.requires.item run (λ l. cell c.args.tables.now (c.args.below + l))
          (λ l. cell c.args.tables.now (c.args.here + l))
          (λ l. cell c.raise_cells.new.tables (c.args.here + l)) e below here;
      other = c.raise_cells.ensures.other;
    }
