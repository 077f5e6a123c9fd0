-- Inside the row stands the table of the run; outside of it the rows are as they were.
use Rattle.std.proofs.Common.{ℕ, ◌≡◌, ◌+◌, ◌-◌, ◌*◌, ◌<◌, ◌≤◌, ◌⊎◌, ◌∷◌, [], ◌∙◌, length, sym}
use Rattle.std.proofs.Common.{subst, arith, rules, inl, inr, None}
use Rattle.set_minima.specs.Packs.{IsTable, IsBest}
use Rattle.colour_tables.specs.Entries.{entry}
use Rattle.set_minima.specs.Cells.{found, cell}
use Rattle.colour_tables.specs.Threes.{row_entry}
use Rattle.colour_tables.specs.Colours.{of_colour, of_colour_but}
use Rattle.set_minima.proofs.CellNumbers.{near-wider}
use Rattle.colour_tables.proofs.PartWritten.{mid-in, mid-below, mid-above}
use Rattle.colour_tables.proofs.OneRowPriced.{rows-near}
use Rattle.set_minima.proofs.WholeTables.{table-allowed}
use Rattle.colour_tables.proofs.RunsLetIn.{none-skipped}
use Rattle.colour_tables.proofs.fill.put_row.Goals as goal
use borrow.Rule.Slice.PartMut.{put_mid}
use Rattle.mill_model.specs.Limits.{all_prices}
use Rattle.colour_tables.specs.Entries.{row_limit}

room : (c : goal.After-rows-1) → (c.args.c * c.args.width + c.args.width) - c.args.c * c.args.width
    ≡ c.args.width
room c = omega arith

long : (c : goal.After-rows-1) → length c.fill_run.new.table
    ≡ (c.args.c * c.args.width + c.args.width) - c.args.c * c.args.width
long c = search (rules, c.fill_run.auto.table)

inside : (c : goal.After-rows-1) → (l : ℕ) → l < c.args.width →
    row_entry (put_mid (c.args.c * c.args.width)
    ((c.args.c * c.args.width + c.args.width) - c.args.c * c.args.width) c.args.rows.now
    c.fill_run.new.table) c.args.width l c.args.c ≡ entry c.fill_run.new.table l
inside c l b =
    mid-in (c.args.c * c.args.width)
    ((c.args.c * c.args.width + c.args.width) - c.args.c * c.args.width) c.args.rows.now
    c.fill_run.new.table l (omega (arith, c.requires.inside)) (long c) (omega arith)

outside : (c : goal.After-rows-1) → (i : ℕ) → i < c.args.c * c.args.width
    ⊎ c.args.c * c.args.width + c.args.width ≤ i →
    entry (put_mid (c.args.c * c.args.width)
    ((c.args.c * c.args.width + c.args.width) - c.args.c * c.args.width) c.args.rows.now
    c.fill_run.new.table) i ≡ entry c.args.rows.now i
outside c i (inl h) =
    mid-below (c.args.c * c.args.width)
    ((c.args.c * c.args.width + c.args.width) - c.args.c * c.args.width) c.args.rows.now
    c.fill_run.new.table i (omega (arith, c.requires.inside)) (long c) h
outside c i (inr h) =
    mid-above (c.args.c * c.args.width)
    ((c.args.c * c.args.width + c.args.width) - c.args.c * c.args.width) c.args.rows.now
    c.fill_run.new.table i (omega (arith, c.requires.inside)) (long c) (omega arith)

pub returns-clause-best : goal.returns-clause-best
returns-clause-best c rest prices x run l b =
    subst (λ z. IsBest (of_colour rest x) (x ∷ []) 1 rest prices l (found z)) (sym (inside c l b))
    (table-allowed rest prices (of_colour_but rest x None) (of_colour rest x) (x ∷ []) 1
    c.args.width (cell c.fill_run.new.table)
    (λ i h. none-skipped rest x i)
    (subst (λ z. IsTable (of_colour_but rest x None) (x ∷ []) 1 rest prices z
    (cell c.fill_run.new.table)) (sym c.fill_run.auto.table ∙ long c ∙ room c)
    (c.fill_run.ensures.best rest prices x run)) l b)

pub returns-clause-other : goal.returns-clause-other
returns-clause-other c i h = outside c i h

pub returns-clause-near : goal.returns-clause-near
returns-clause-near c h =
    rows-near row_limit c.args.width c.args.c c.args.rows.now _ c.fill_run.new.table h
    (λ l. near-wider all_prices row_limit (entry c.fill_run.new.table l) (omega arith)
    (c.fill_run.ensures.near l)) (inside c) (outside c)
