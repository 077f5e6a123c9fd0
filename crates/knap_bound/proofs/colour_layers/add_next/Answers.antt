use Rattle.std.proofs.Common.{◌≡◌, [], true, false, length, sym, ◌+◌, ◌*◌}
use Rattle.list_laws.specs.Sets.{holds}
use Rattle.set_minima.specs.Cells.{cell}
use Rattle.knap_bound.specs.Items.{item_at}
use Rattle.knap_bound.specs.Packing.{let_to}
use Rattle.knap_bound.proofs.ItemsLetIn.{run-out, run-new}
use Rattle.set_minima.proofs.WholeTables.{table-allowed}
use Rattle.knap_bound.proofs.colour_layers.add_next.Goals as goal

pub returns-then-not-has_colour-clause-best : goal.returns-then-not-has_colour-clause-best
returns-then-not-has_colour-clause-best c p =
    let n : holds (item_at c.args.packing.now.items.now c.args.run.0).colour c.args.out.now
    ≡ false =
    sym c.if-not-has_colour.ensures in
    c.add_colour.ensures.best c.args.out.now (item_at c.args.packing.now.items.now
    c.args.run.0).colour
    (run-new c.args.packing.now.rest.now c.args.packing.now.items.now c.requires.packing.sorted
    c.args.out.now c.args.packing.now.skip c.args.run.0
    c.args.run.1 c.requires.stretch n) p

pub returns-else-not-has_colour-clause-best : goal.returns-else-not-has_colour-clause-best
returns-else-not-has_colour-clause-best c p t b =
    let o : holds (item_at c.args.packing.now.items.now c.args.run.0).colour c.args.out.now ≡ true =
    sym c.if-not-has_colour.ensures in
    table-allowed c.args.packing.now.rest.now c.args.packing.now.prices.now
    (let_to c.args.packing.now c.args.out.now c.args.run.0)
    (let_to c.args.packing.now c.args.out.now c.args.run.1) [] t
    (length c.args.table.now) (λ l. cell c.args.tables.now (t * length c.args.table.now + l))
    (run-out c.args.packing.now.rest.now c.args.packing.now.items.now c.requires.packing.sorted
    c.args.out.now c.args.packing.now.skip c.args.run.0
    c.args.run.1 c.requires.stretch o) (p t b)
