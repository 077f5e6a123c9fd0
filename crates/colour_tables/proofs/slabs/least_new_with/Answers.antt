use Rattle.std.proofs.Common.{◌∷◌, [], get_or, arith, SFits, w64, to_z-of_z, rules, pos}
use Rattle.set_minima.specs.Packs.{nobody}
use Rattle.set_minima.specs.Joins.{all_but}
use Rattle.set_minima.proofs.CellNumbers.{near-wider}
use Rattle.colour_tables.proofs.SlacksFromTables.{slack-new-with}
use Rattle.colour_tables.proofs.slabs.least_new_with.Goals as goal
use Rattle.colour_tables.specs.Entries.{table_limit}

pub least_front-requires-clause-near : goal.least_front-requires-clause-near
least_front-requires-clause-near c l =
    near-wider table_limit table_limit (get_or c.args.beside.now l (pos 0)) (omega arith)
    (c.requires.near l)

pub returns : goal.returns
returns c = record {
  is = λ rest prices charge largest colour j same here at table room charged v.
      let f : SFits w64 c.least_front.result = search rules in
      simp to_z-of_z (slack-new-with rest prices charge largest c.args.n colour
      c.least_front.result j v here same at room
      (c.least_front.ensures.top (all_but j) (colour ∷ []) 2 rest prices charge
      (get_or rest j nobody).weight charged table));
}
