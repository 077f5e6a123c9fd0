use Rattle.std.proofs.Common.{◌∷◌, [], sym, subst}
use Rattle.set_minima.specs.Packs.{IsTable}
use Rattle.set_minima.specs.Joins.{all_but}
use Rattle.set_minima.specs.Cells.{cell}
use Rattle.colour_tables.specs.Items.{IsRun}
use Rattle.colour_tables.specs.Colours.{but_order}
use Rattle.colour_tables.proofs.slabs.begin_turn.Goals as goal

pub returns-clause-is : goal.returns-clause-is
returns-clause-is c rest prices name rows runs here at =
    let x = name c.args.c in
    let j = c.args.j in
    let run = subst (λ xs. IsRun rest prices x xs) (sym c.run-run.ensures.is)
    (runs c.args.c c.requires.colour) in
    record {
      here = here;
      colour = at;
      alone =
          subst (λ n. IsTable (but_order rest x j) (x ∷ []) 1 rest prices n
          (cell c.fill_run.new.table)) c.requires.alone
          (c.fill_run.ensures.best rest prices x run);
      mates =
          subst (λ n. IsTable (all_but j) (x ∷ []) 2 rest prices n (cell c.put_beside.new.table))
          c.requires.beside (c.put_beside.ensures.is rest prices name rows run at);
    }
