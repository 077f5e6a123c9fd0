use Rattle.std.proofs.Common.{◌∷◌, [], length, arith, get_or, pos, SFits, w64, to_z-of_z, rules}
use Rattle.set_minima.specs.Joins.{all_but}
use Rattle.set_minima.specs.Cells.{cell}
use Rattle.set_minima.proofs.CellNumbers.{near-wider}
use Rattle.colour_tables.proofs.ColoursPaid.{paid-table}
use Rattle.colour_tables.proofs.SlacksFromTables.{least-over}
use Rattle.colour_tables.proofs.colour_rows.Rows.least_bare.Goals as goal
use Rattle.colour_tables.specs.Entries.{row_limit}
use Rattle.colour_tables.specs.Entries.{table_limit}

pub least-requires-clause-near : goal.least-requires-clause-near
least-requires-clause-near c l =
    near-wider row_limit table_limit (get_or c.put_bare.new.table l (pos 0)) (omega
    arith)
    (c.put_bare.ensures.near l)

pub returns : goal.returns
returns c = record {
  is = λ rest prices name charge largest base j x rows at none alone room charged.
      let f : SFits w64 c.least.result = search rules in
      let e = c.least.ensures.top in
      simp to_z-of_z (least-over rest prices charge largest base (length c.args.table.now)
      (length c.put_bare.new.table) (all_but j) (x ∷ []) c.args.charges.now c.put_bare.new.table
      c.least.result c.put_bare.auto.table room charged
      (paid-table rest prices (all_but j) x (length c.args.table.now) (cell c.put_bare.new.table)
      (λ i b a. none i b) (c.put_bare.ensures.is rest prices name j rows at alone))
      (λ p q. e (all_but j) (x ∷ []) 2 rest prices charge base p q));
}
