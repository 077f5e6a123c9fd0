use Rattle.std.proofs.Common.{◌+◌, ◌∷◌, [], map, length, arith, get_or, pos}
use Rattle.set_minima.specs.Cells.{cell}
use Rattle.colour_tables.specs.Threes.{but}
use Rattle.colour_tables.specs.Colours.{of_colours, but_for}
use Rattle.set_minima.proofs.CellNumbers.{near-wider}
use Rattle.colour_tables.proofs.ColoursPaid.{paid-table}
use Rattle.colour_tables.proofs.RunsLetIn.{run-table, self-holds}
use Rattle.colour_tables.proofs.AllowedByTables.{beside-all, not-c}
use Rattle.colour_tables.proofs.colour_rows.Rows.put_beside.Goals as goal
use Rattle.mill_model.specs.Limits.{all_prices}
use Rattle.colour_tables.specs.Entries.{row_limit}
use Rattle.colour_tables.specs.Entries.{table_limit}

pub returns-clause-is : goal.returns-clause-is
returns-clause-is c rest prices name rows run at =
    let t = c.args.self.now in
    let A = of_colours rest (map name (but c.args.c t.present.items)) in
    run-table rest prices (name c.args.c) c.args.run.now run A (but_for c.args.skip)
    (name c.args.c ∷ []) 2 c.args.skip (length c.args.table.now) c.put_others.new.table
    c.add_run.new.table c.put_others.auto.table
    (λ i b h. not-c rest name t.present.items rows.once rows.all c.args.c c.requires.held i h)
    (λ i b. beside-all rest name t.present.items rows.once rows.all c.args.c c.requires.held
    c.args.skip at i b)
    (paid-table rest prices A (name c.args.c) (length c.args.table.now)
    (cell c.put_others.new.table)
    (λ i b h. not-c rest name t.present.items rows.once rows.all c.args.c c.requires.held i h)
    (c.put_others.ensures.is rest prices name rows))
    (λ new p. c.add_run.ensures.best rest prices (name c.args.c) run A (name c.args.c ∷ []) 2
    (self-holds (name c.args.c) []) new p)

pub returns-clause-near : goal.returns-clause-near
returns-clause-near c l =
    near-wider (row_limit + all_prices) table_limit
    (get_or c.add_run.new.table l (pos 0)) (omega arith)
    (c.add_run.ensures.near row_limit c.put_others.ensures.near l)
