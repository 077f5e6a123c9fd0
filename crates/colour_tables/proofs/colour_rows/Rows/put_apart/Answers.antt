use Rattle.std.proofs.Common.{◌+◌, None, ◌∷◌, [], map, length, arith, get_or, pos}
use Rattle.set_minima.specs.Joins.{all_but}
use Rattle.set_minima.specs.Cells.{cell}
use Rattle.colour_tables.specs.Threes.{but}
use Rattle.colour_tables.specs.Rowed.{apart_from}
use Rattle.set_minima.proofs.CellNumbers.{near-wider}
use Rattle.colour_tables.proofs.ColoursPaid.{paid-table}
use Rattle.colour_tables.proofs.RunsLetIn.{run-table, self-holds}
use Rattle.colour_tables.proofs.AllowedByTables.{two-without, two-all}
use Rattle.colour_tables.proofs.colour_rows.Rows.put_apart.Goals as goal
use Rattle.mill_model.specs.Limits.{all_prices}
use Rattle.colour_tables.specs.Entries.{row_limit}
use Rattle.colour_tables.specs.Entries.{table_limit}

pub returns-clause-is : goal.returns-clause-is
returns-clause-is c rest prices name j rows run here at alone =
    let t = c.args.self.now in
    let A = apart_from rest (map name (but c.args.d (but c.args.c t.present.items)))
    (name c.args.c) j in
    run-table rest prices (name c.args.d) c.args.run.now run A (all_but j)
    (name c.args.d ∷ []) 2 None (length c.args.table.now)
    c.put_others_of_two.new.table c.add_run.new.table c.put_others_of_two.auto.table
    (λ i b h. two-without rest name t.present.items rows.once rows.all c.args.c c.requires.held
    c.args.d c.requires.other j i b h)
    (λ i b. two-all rest name t.present.items rows.once rows.all c.args.c c.requires.held
    c.args.d c.requires.other j at i b)
    (paid-table rest prices A (name c.args.d) (length c.args.table.now)
    (cell c.put_others_of_two.new.table)
    (λ i b h. two-without rest name t.present.items rows.once rows.all c.args.c c.requires.held
    c.args.d c.requires.other j i b h)
    (c.put_others_of_two.ensures.is rest prices name j rows alone))
    (λ new p. c.add_run.ensures.best rest prices (name c.args.d) run A (name c.args.d ∷ []) 2
    (self-holds (name c.args.d) []) new p)

pub returns-clause-near : goal.returns-clause-near
returns-clause-near c l =
    near-wider (row_limit + all_prices) table_limit
    (get_or c.add_run.new.table l (pos 0)) (omega arith)
    (c.add_run.ensures.near row_limit c.put_others_of_two.ensures.near l)
