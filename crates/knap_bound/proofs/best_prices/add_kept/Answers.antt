use Rattle.std.proofs.Common.{◌+◌, get_or, pos}
use Rattle.std.proofs.Common.{length, arith}
use Rattle.set_minima.specs.Cells.{cell}
use Rattle.mill_model.specs.declared.prices.TheConstants.{MAX_PRICE}
use Rattle.knap_bound.specs.Items.{item_at}
use Rattle.knap_bound.specs.Packing.{let_to}
use Rattle.set_minima.proofs.CellNumbers.{near-wider}
use Rattle.set_minima.proofs.WholeTables.{table-allowed}
use Rattle.knap_bound.proofs.ItemsLetIn.{next-let_in, skipped-let_in, is-kept, is-skipped}
use Rattle.knap_bound.proofs.best_prices.add_kept.Goals as goal

pub returns-then-item-packing-clause-best : goal.returns-then-item-packing-clause-best
returns-then-item-packing-clause-best c out own k n paid p =
    let j = (item_at c.args.packing.now.items.now c.args.t).place in
    c.add_item.ensures.best (let_to c.args.packing.now out c.args.t)
    (let_to c.args.packing.now out (c.args.t + 1)) own k
    (next-let_in c.args.packing.now.rest.now c.args.packing.now.items.now c.requires.packing.sorted
    out c.args.packing.now.skip c.args.t c.requires.here n
    (is-kept c.args.packing.now.skip j c.if-item-packing.true)) paid p

pub returns-else-item-packing-clause-best : goal.returns-else-item-packing-clause-best
returns-else-item-packing-clause-best c out own k n paid p =
    let j = (item_at c.args.packing.now.items.now c.args.t).place in
    table-allowed c.args.packing.now.rest.now c.args.packing.now.prices.now
    (let_to c.args.packing.now out c.args.t) (let_to c.args.packing.now out (c.args.t + 1)) own k
    (length c.args.table.now) (cell c.args.table.now)
    (λ i b. skipped-let_in c.args.packing.now.rest.now c.args.packing.now.items.now
    c.requires.packing.sorted out c.args.packing.now.skip c.args.t c.requires.here
    (is-skipped c.args.packing.now.skip j c.if-item-packing.false) i) p

pub returns-else-item-packing-clause-near : goal.returns-else-item-packing-clause-near
returns-else-item-packing-clause-near c n h l =
    near-wider n (n + MAX_PRICE) (get_or c.args.table.now l (pos 0)) (omega arith) (h l)
