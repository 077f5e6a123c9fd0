-- In each case of the slab's colours a table has the best of the sets that may join it.
use Rattle.std.proofs.Common.{◌∷◌, [], length, sym, subst, arith, SFits, w64, to_z-of_z, rules}
use Rattle.set_minima.specs.Packs.{IsTable}
use Rattle.set_minima.specs.Joins.{all_places, IsSlab}
use Rattle.set_minima.specs.Cells.{cell, AreNear}
use Rattle.colour_tables.specs.Threes.{row_entry}
use Rattle.colour_tables.specs.Items.{IsRun}
use Rattle.colour_tables.specs.Colours.{of_colour}
use Rattle.colour_tables.specs.Owned.{IsOwn, IsHeld}
use Rattle.colour_tables.proofs.ColoursPaid.{but-less}
use Rattle.colour_tables.proofs.GreatestBut.{best-near}
use Rattle.colour_tables.proofs.OwnTables.{bare-table, row-table, row-cells, near-large}
use Rattle.colour_tables.proofs.SlacksFromTables.{least-top, slack-on}
use Rattle.colour_tables.proofs.slabs.least_on.Goals as goal
use Rattle.colour_tables.specs.Entries.{table_limit}

pub least_front-requires-clause-near : goal.least_front-requires-clause-near
least_front-requires-clause-near c =
    subst (λ xs. AreNear table_limit xs) (sym c.deref.ensures.value)
    (near-large c.args.rows.now.best.items (best-near c.args.rows.now c.requires.shaped))

pub run-requires-in-Two : goal.run-requires-in-Two
run-requires-in-Two c =
    let h = subst (λ z. IsHeld c.args.rows.now.present.items z) c.in-Two.is c.requires.held in
    record {
      safe =
          c.requires.safe c.in-Two.e
          (but-less c.in-Two.d c.in-Two.e c.args.rows.now.present.items h.1).1;
    }

pub returns-in-Bare : goal.returns-in-Bare
returns-in-Bare c = record {
  is = λ rest prices name charge largest base colours rows runs own room charged group of.
      let f : SFits w64 c.least_front.result = search rules in
      let o = subst (λ z. IsOwn rest name colours z) c.in-Bare.is own in
      let n = length c.args.table.now in
      let table = bare-table rest prices name c.args.rows.now c.requires.shaped rows n
      c.requires.few o.0 o.2 in
      let top = c.least_front.ensures.top all_places (o.0 ∷ []) 2 rest prices charge base charged
      (subst (λ xs. IsTable all_places (o.0 ∷ []) 2 rest prices n (cell xs))
      (sym c.deref.ensures.value) table) in
      simp to_z-of_z (sym (slack-on rest prices charge largest base (o.0 ∷ [])
      c.least_front.result room.fits (omega arith)
      (least-top rest prices charge largest base n all_places (o.0 ∷ []) c.least_front.result room
      top) group (subst (λ z. IsSlab group base z) o.1 of)));
}

pub returns-in-Free : goal.returns-in-Free
returns-in-Free c = record {
  is = λ rest prices name charge largest base colours rows runs own room charged group of.
      let f : SFits w64 c.least_beside.result = search rules in
      let d = c.in-Free.d in
      let o = subst (λ z. IsOwn rest name colours z) c.in-Free.is own in
      let h = subst (λ z. IsHeld c.args.rows.now.present.items z) c.in-Free.is c.requires.held in
      let least = c.least_beside.ensures.is rest prices name charge largest base rows
      (subst (λ xs. IsRun rest prices (name d) xs) (sym c.run.ensures.is) (runs d h))
      tt room charged in
      simp to_z-of_z (sym (slack-on rest prices charge largest base (name d ∷ [])
      c.least_beside.result room.fits (omega arith)
      least group (subst (λ z. IsSlab group base z) o of)));
}

pub returns-in-One : goal.returns-in-One
returns-in-One c = record {
  is = λ rest prices name charge largest base colours rows runs own room charged group of.
      let f : SFits w64 c.least_front-in-One.result = search rules in
      let d = c.in-One.d in
      let t = c.args.rows.now in
      let n = length c.args.table.now in
      let o = subst (λ z. IsOwn rest name colours z) c.in-One.is own in
      let h = subst (λ z. IsHeld c.args.rows.now.present.items z) c.in-One.is c.requires.held in
      let table = row-table rest prices (name d) n colours (cell c.row.result.now) o.0 o.1 o.2
      (row-cells rest prices (of_colour rest (name d)) (name d ∷ []) 1 t.width n
      (λ l. row_entry t.rows.items t.width l d) c.row.result.now c.requires.few
      c.row.ensures.is (rows.rows d h)) in
      let top = c.least_front-in-One.ensures.top all_places colours 2 rest prices charge base
      charged table in
      simp to_z-of_z (sym (slack-on rest prices charge largest base colours
      c.least_front-in-One.result room.fits (omega (arith, o.0))
      (least-top rest prices charge largest base n all_places colours
      c.least_front-in-One.result room top) group of));
}

pub returns-in-Two : goal.returns-in-Two
returns-in-Two c = record {
  is = λ rest prices name charge largest base colours rows runs own room charged group of.
      let f : SFits w64 c.least_pair.result = search rules in
      let d = c.in-Two.d in
      let e = c.in-Two.e in
      let o = subst (λ z. IsOwn rest name colours z) c.in-Two.is own in
      let h = subst (λ z. IsHeld c.args.rows.now.present.items z) c.in-Two.is c.requires.held in
      let least = c.least_pair.ensures.is rest prices name charge largest base e colours rows
      (subst (λ xs. IsRun rest prices (name e) xs) (sym c.run-in-Two.ensures.is)
      (runs e (but-less d e c.args.rows.now.present.items h.1).1))
      h.1 tt o.0 o.2 o.1 room charged in
      simp to_z-of_z (sym (slack-on rest prices charge largest base colours
      c.least_pair.result room.fits (omega (arith, o.0))
      least group of));
}

pub returns-in-Full : goal.returns-in-Full
returns-in-Full c = record {
  is = λ rest prices name charge largest base colours rows runs own room charged group of.
      let f : SFits w64 c.least_of_none.result = search rules in
      let o = subst (λ z. IsOwn rest name colours z) c.in-Full.is own in
      simp to_z-of_z (sym (slack-on rest prices charge largest base colours
      c.least_of_none.result room.fits (omega (arith, o.0))
      (c.least_of_none.ensures.is rest prices charge largest base colours rows.orders o.0 o.1 room
      charged) group of));
}
