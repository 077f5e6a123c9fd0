use Rattle.std.proofs.Common.{◌∷◌, [], length, arith, get_or, pos, SFits, w64, to_z-of_z, rules}
use Rattle.set_minima.specs.Joins.{all_but}
use Rattle.set_minima.proofs.CellNumbers.{near-wider}
use Rattle.colour_tables.proofs.SlacksFromTables.{least-over}
use Rattle.colour_tables.proofs.colour_rows.Rows.least_apart.Goals as goal
use Rattle.colour_tables.specs.Entries.{table_limit}

pub least-requires-clause-near : goal.least-requires-clause-near
least-requires-clause-near c l =
    near-wider table_limit table_limit (get_or c.put_apart.new.table l (pos 0)) (omega
    arith)
    (c.put_apart.ensures.near l)

pub returns : goal.returns
returns c = record {
  is = λ rest prices name charge largest base j rows run here at alone room charged.
      let f : SFits w64 c.least.result = search rules in
      let e = c.least.ensures.top in
      simp to_z-of_z (least-over rest prices charge largest base (length c.args.table.now)
      (length c.put_apart.new.table) (all_but j) (name c.args.d ∷ []) c.args.charges.now
      c.put_apart.new.table
      c.least.result c.put_apart.auto.table room charged
      (c.put_apart.ensures.is rest prices name j rows run here at alone)
      (λ p q. e (all_but j) (name c.args.d ∷ []) 2 rest prices charge base p q));
}
