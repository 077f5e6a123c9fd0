use Rattle.std.proofs.Common.{◌≡◌, ◌+◌, ◌-◌, ◌*◌, false, length, get_or, pos, sym, ◌∙◌, arith}
use Rattle.list_laws.specs.Sets.{holds}
use Rattle.set_minima.specs.Cells.{cell}
use Rattle.least_slacks.specs.Items.{item_at}
use Rattle.least_slacks.specs.Later.{joined_to}
use Rattle.set_minima.proofs.CellNumbers.{near-wider}
use Rattle.set_minima.proofs.WholeTables.{table-allowed}
use Rattle.least_slacks.proofs.ItemsLetIn.{other-run-joined}
use Rattle.mill_model.specs.declared.prices.TheConstants.{MAX_PRICE}
use Rattle.least_slacks.proofs.best_prices.add_run_left_out.Goals as goal

pub returns-then-has_colour-clause-best : goal.returns-then-has_colour-clause-best
returns-then-has_colour-clause-best c own k have p =
    c.add_own_run.ensures.best c.args.out.now own k have
    (sym c.has_colour.ensures ∙ c.if-has_colour.true) p

pub returns-else-has_colour-clause-best : goal.returns-else-has_colour-clause-best
returns-else-has_colour-clause-best c own k have p =
    let later = c.args.later.now in
    let h : holds (item_at later.items.now c.args.at).colour c.args.out.now ≡ false =
    sym c.has_colour.ensures ∙ c.if-has_colour.false in
    table-allowed later.rest.now later.prices.now
    (joined_to later c.args.out.now c.args.at)
    (joined_to later c.args.out.now c.args.end) own k
    (length c.args.table.now) (cell c.args.table.now)
    (λ i b. other-run-joined later.rest.now later.items.now c.requires.later.sorted
    c.args.out.now c.args.at c.args.end c.requires.stretch h i) p

pub returns-else-has_colour-clause-near : goal.returns-else-has_colour-clause-near
returns-else-has_colour-clause-near c n h l =
    near-wider n (n + (c.args.end - c.args.at) * MAX_PRICE) (get_or c.args.table.now l (pos 0))
    (omega arith) (h l)
