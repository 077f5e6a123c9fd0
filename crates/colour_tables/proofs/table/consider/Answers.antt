use Rattle.std.proofs.Common.{◌+◌, ◌∙◌, sym, length, get_or}
use Rattle.std.proofs.Common.{pos, SFits, w64, to_z-of_z, rules, arith}
use Rattle.set_minima.specs.Cells.{cell}
use Rattle.colour_tables.specs.Items.{item_at}
use Rattle.set_minima.proofs.CellNumbers.{near-wider}
use Rattle.colour_tables.proofs.RunsLetIn.{item-adds, item-skipped}
use Rattle.colour_tables.proofs.table.consider.Goals as goal
use Rattle.mill_model.specs.declared.prices.TheConstants.{MAX_PRICE}

pub returns-then-is_let_in-clause-best : goal.returns-then-is_let_in-clause-best
returns-then-is_let_in-clause-best c rest prices colour is before own k paid new h =
    let f : SFits w64 (item_at c.args.run.now c.args.t).price = search rules in
    let e = simp to_z-of_z at c.add.ensures.cells in
    item-adds rest prices colour c.args.run.now is before own k c.args.skip c.args.t paid new
    c.requires.here c.args.table.now c.add.new.table
    (sym c.is_let_in.ensures ∙ c.if-is_let_in.true) e h

pub returns-else-is_let_in-clause-best : goal.returns-else-is_let_in-clause-best
returns-else-is_let_in-clause-best c rest prices colour is before own k paid new h =
    item-skipped rest prices colour c.args.run.now is before own k c.args.skip c.args.t paid new
    c.requires.here (length c.args.table.now) (cell c.args.table.now)
    (sym c.is_let_in.ensures ∙ c.if-is_let_in.false) h

pub returns-else-is_let_in-clause-near : goal.returns-else-is_let_in-clause-near
returns-else-is_let_in-clause-near c n h l =
    near-wider n (n + MAX_PRICE) (get_or c.args.table.now l (pos 0)) (omega arith) (h l)
