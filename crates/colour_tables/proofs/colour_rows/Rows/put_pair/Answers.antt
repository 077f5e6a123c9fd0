-- At first the table is the row of d, the best of the sets of d alone; the run of c is let in then.
use Rattle.std.proofs.Common.{◌+◌, ◌∷◌, [], ◌||◌, length, arith, subst, sym, get_or, pos, refl}
use Rattle.set_minima.specs.Packs.{IsTable}
use Rattle.set_minima.specs.Cells.{cell, IsNear}
use Rattle.colour_tables.specs.Entries.{entry}
use Rattle.colour_tables.specs.Threes.{row_entry}
use Rattle.colour_tables.specs.Colours.{of_colour, of_colour_but, but_for}
use Rattle.set_minima.proofs.CellNumbers.{near-wider}
use Rattle.colour_tables.proofs.NearNumbers.{front-near}
use Rattle.colour_tables.proofs.ColoursPaid.{own-table, full-table, front-table, but-less}
use Rattle.colour_tables.proofs.RunsLetIn.{run-table, self-holds}
use Rattle.colour_tables.proofs.AllowedByTables.{pair-more, pair-less, row-without, row-own}
use Rattle.colour_tables.proofs.AllowedByTables.{row-other, apart}
use Rattle.colour_tables.proofs.colour_rows.Rows.put_pair.Goals as goal
use Rattle.mill_model.specs.Limits.{all_prices}
use Rattle.colour_tables.specs.Entries.{row_limit}
use Rattle.colour_tables.specs.Entries.{table_limit}

pub returns-clause-is : goal.returns-clause-is
returns-clause-is c rest prices name colour own rows run other at two h k =
    let t = c.args.self.now in
    let n = length c.args.table.now in
    let d = c.args.d in
    let A = of_colour rest (name d) in
    let skip = c.args.skip in
    let held = (but-less d colour t.present.items other).1 in
    let row : IsTable A own 2 rest prices n (cell c.copy_from_slice.new.self) =
    own-table rest prices A (name d ∷ []) own 1 2 n (cell c.copy_from_slice.new.self)
    (omega arith) (omega arith) (λ i b a. row-own rest (name d) (name d ∷ []) (self-holds (name d)
    []) i a)
    (λ i b a. row-own rest (name d) own k i a)
    (front-table rest prices A (name d ∷ []) 1 t.width n
    (row_entry t.rows.items t.width) d c.row.result.now
    c.copy_from_slice.new.self c.requires.few c.copy_from_slice.ensures.after
    c.row.ensures.is (rows.rows d c.requires.held)) in
    full-table rest prices (λ i. of_colour rest (name d) i || of_colour_but rest
    (name colour) skip i)
    (but_for skip) own 2 n (cell c.add_run.new.table) (sym two)
    (λ i b a. pair-more rest name t.present.items rows.once rows.all colour held d
    (row-without d colour t.present.items other c.requires.held) skip at i a)
    (λ i b a e. pair-less rest name t.present.items rows.once rows.all colour held d
    (row-without d colour t.present.items other c.requires.held) own two h k skip i a e)
    (run-table rest prices (name colour) c.args.run.now run A
    (λ i. of_colour rest (name d) i || of_colour_but rest (name colour) skip i)
    own 2 skip n c.copy_from_slice.new.self c.add_run.new.table c.copy_from_slice.ensures.len
    (λ i b a. row-other rest (name d) (name colour)
    (apart rest name t.present.items rows.once rows.all colour held d
    (row-without d colour t.present.items other c.requires.held)) i a)
    (λ i b. refl) row
    (λ new p. c.add_run.ensures.best rest prices (name colour) run A own 2 h new p))

pub returns-clause-near : goal.returns-clause-near
returns-clause-near c l =
    near-wider (row_limit + all_prices) table_limit
    (get_or c.add_run.new.table l (pos 0)) (omega arith)
    (c.add_run.ensures.near row_limit (λ l. subst (λ xs. IsNear row_limit (entry xs l))
    (sym c.copy_from_slice.ensures.after)
    (front-near row_limit (length c.args.table.now) c.row.result.now c.row.ensures.near l)) l)
