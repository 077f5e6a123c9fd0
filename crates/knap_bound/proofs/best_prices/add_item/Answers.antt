use Rattle.std.proofs.Common.{get_or, pos, SFits, w64, to_z-of_z, rules}
use Rattle.set_minima.proofs.WholeTables.{table-adds}
use Rattle.knap_bound.proofs.best_prices.add_item.Goals as goal

pub add_order-requires-clause-price : goal.add_order-requires-clause-price
add_order-requires-clause-price c =
    let f : SFits w64 (get_or c.args.packing.now.prices.now c.args.item.place (pos 0)) =
    search rules in
    simp to_z-of_z (c.requires.packing.priced c.args.item.place)

pub returns-clause-best : goal.returns-clause-best
returns-clause-best c before after own k next paid p =
    let f : SFits w64 (get_or c.args.packing.now.prices.now c.args.item.place (pos 0)) =
    search rules in
    let e = simp to_z-of_z at c.add_order.ensures.cells in
    table-adds c.args.packing.now.rest.now c.args.packing.now.prices.now c.requires.packing.same
    before after own k
    c.args.item.place c.requires.here next paid c.args.table.now c.add_order.new.table e p
