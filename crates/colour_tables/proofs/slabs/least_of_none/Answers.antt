use Rattle.std.proofs.Common.{length, arith, get_or, pos, SFits, w64, to_z-of_z, rules}
use Rattle.set_minima.specs.Joins.{all_places}
use Rattle.set_minima.proofs.CellNumbers.{near-wider}
use Rattle.colour_tables.proofs.OwnTables.{none-table}
use Rattle.colour_tables.proofs.SlacksFromTables.{least-over}
use Rattle.colour_tables.proofs.slabs.least_of_none.Goals as goal
use Rattle.colour_tables.specs.Entries.{table_limit}

pub least-requires-clause-near : goal.least-requires-clause-near
least-requires-clause-near c l =
    near-wider 0 table_limit (get_or c.clear.new.table l (pos 0)) (omega arith)
    (c.clear.ensures.near l)

pub returns : goal.returns
returns c = record {
  is = λ rest prices charge largest base own orders two none room charged.
      let f : SFits w64 c.least.result = search rules in
      let e = c.least.ensures.top in
      simp to_z-of_z (least-over rest prices charge largest base (length c.args.table.now)
      (length c.clear.new.table) all_places own c.args.charges.now c.clear.new.table
      c.least.result c.clear.auto.table room charged
      (none-table rest prices own (length c.args.table.now) c.clear.new.table orders two none
      c.clear.ensures.first
      (λ l b. c.clear.ensures.others l (omega (arith, c.clear.auto.table))))
      (λ p q. e all_places own 2 rest prices charge base p q));
}
