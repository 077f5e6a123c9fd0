use Rattle.std.proofs.Common.{◌≡◌, ℕ, zero, suc, ◌+◌, ◌<◌, ◌∷◌, [], false, length, refl, sym, subst}
use Rattle.std.proofs.Common.{arith, get_or, pos}
use Rattle.set_minima.specs.Packs.{IsBest, IsTable}
use Rattle.set_minima.proofs.OneColour.{table-none, table-empty}
use Rattle.set_minima.specs.Cells.{cell}
use Rattle.colour_tables.specs.Items.{let_in}
use Rattle.colour_tables.specs.Colours.{of_colour_but}
use Rattle.set_minima.proofs.CellNumbers.{near-wider}
use Rattle.set_minima.proofs.WholeTables.{table-allowed}
use Rattle.colour_tables.proofs.RunsLetIn.{run-let_in, self-holds}
use Rattle.colour_tables.proofs.table.fill_run.Goals as goal
use Rattle.mill_model.specs.Limits.{all_prices}

pub returns-clause-best : goal.returns-clause-best
returns-clause-best c rest prices colour is =
    let w : length c.clear.new.table ≡ length c.args.table.now = c.clear.auto.table in
    subst (λ z. IsTable (of_colour_but rest colour c.args.skip) (colour ∷ []) 1 rest prices z
    (cell c.add_run.new.table)) w
    (table-allowed rest prices (let_in (λ i. false) c.args.run.now c.args.skip
    (length c.args.run.now)) (of_colour_but rest colour c.args.skip) (colour ∷ []) 1
    (length c.clear.new.table) (cell c.add_run.new.table)
    (λ i b. run-let_in rest prices colour c.args.run.now is (λ i. false) c.args.skip i b)
    (c.add_run.ensures.best rest prices colour is (λ i. false) (colour ∷ []) 1
    (self-holds colour []) (λ i b h. refl) first))
  where
    first : (l : ℕ) → l < length c.clear.new.table →
        IsBest (λ i. false) (colour ∷ []) 1 rest prices l (cell c.clear.new.table l)
    first zero b =
        subst (λ z. IsBest (λ i. false) (colour ∷ []) 1 rest prices 0 z) (sym c.clear.ensures.first)
        (table-empty rest (λ i. false) (colour ∷ []) prices (λ i. refl) 1 refl)
    first (suc l) b =
        subst (λ z. IsBest (λ i. false) (colour ∷ []) 1 rest prices (suc l) z)
        (sym (c.clear.ensures.others l b))
        (table-none rest (λ i. false) (colour ∷ []) prices (λ i. refl) 1 l)

pub returns-clause-near : goal.returns-clause-near
returns-clause-near c l =
    near-wider (0 + all_prices) all_prices (get_or c.add_run.new.table l (pos 0))
    (omega arith) (c.add_run.ensures.near 0 c.clear.ensures.near l)
