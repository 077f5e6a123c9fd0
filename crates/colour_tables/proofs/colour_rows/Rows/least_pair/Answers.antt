use Rattle.std.proofs.Common.{length, arith, get_or, pos, SFits, w64, to_z-of_z, rules}
use Rattle.colour_tables.specs.Colours.{but_for}
use Rattle.set_minima.proofs.CellNumbers.{near-wider}
use Rattle.colour_tables.proofs.SlacksFromTables.{least-over}
use Rattle.colour_tables.proofs.colour_rows.Rows.least_pair.Goals as goal
use Rattle.colour_tables.specs.Entries.{table_limit}

pub least-requires-clause-near : goal.least-requires-clause-near
least-requires-clause-near c l =
    near-wider table_limit table_limit (get_or c.put_pair.new.table l (pos 0)) (omega
    arith)
    (c.put_pair.ensures.near l)

pub returns : goal.returns
returns c = record {
  is = λ rest prices name charge largest base colour own rows run other at two h k room charged.
      let f : SFits w64 c.least.result = search rules in
      let e = c.least.ensures.top in
      simp to_z-of_z (least-over rest prices charge largest base (length c.args.table.now)
      (length c.put_pair.new.table) (but_for c.args.skip) (own) c.args.charges.now
      c.put_pair.new.table
      c.least.result c.put_pair.auto.table room charged
      (c.put_pair.ensures.is rest prices name colour own rows run other at two h k)
      (λ p q. e (but_for c.args.skip) (own) 2 rest prices charge base p q));
}
