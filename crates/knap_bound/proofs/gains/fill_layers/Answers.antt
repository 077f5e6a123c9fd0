use Rattle.std.proofs.Common.{◌≡◌, ℕ, zero, suc, [], ◌<◌, length, sym, subst, refl, zero-add}
use Rattle.std.proofs.Common.{true, false}
use Rattle.set_minima.specs.Packs.{IsBest}
use Rattle.set_minima.proofs.OneColour.{layer-spread, table-none, table-empty}
use Rattle.set_minima.specs.Cells.{cell, found}
use Rattle.knap_bound.specs.Items.{no_place}
use Rattle.knap_bound.proofs.gains.fill_layers.Goals as goal

pub returns-clause-best : goal.returns-clause-best
returns-clause-best c =
    let rest = c.args.packing.now.rest.now in
    let prices = c.args.packing.now.prices.now in
    let v : length c.clear.new.table ≡ length c.args.table.now = c.clear.auto.table in
    let spread = rw v at c.spread_layer.ensures.is in
    let all = rw v at c.add_colours.ensures.best in
    all (λ t a l b. subst (λ x. IsBest no_place [] t rest prices l (found x))
    (sym (spread t a l b))
    (subst (λ z. IsBest no_place [] z rest prices l (cell c.clear.new.table l)) (zero-add t)
    (layer-spread rest no_place [] prices 0 t l (cell c.clear.new.table l) refl
    (λ i h. absurd (never h)) (first l (subst (λ z. l < z) (sym v) b)))))
  where
    never : false ≡ true → ⊥
    never h = cc

    first : (l : ℕ) → l < length c.clear.new.table →
        IsBest no_place [] 0 c.args.packing.now.rest.now
        c.args.packing.now.prices.now l (cell c.clear.new.table l)
    first zero b =
        rw c.clear.ensures.first (table-empty c.args.packing.now.rest.now no_place []
        c.args.packing.now.prices.now (λ i. refl) 0 refl)
    first (suc l) b =
        rw (c.clear.ensures.others l b) (table-none c.args.packing.now.rest.now no_place []
        c.args.packing.now.prices.now (λ i. refl) 0 l)
