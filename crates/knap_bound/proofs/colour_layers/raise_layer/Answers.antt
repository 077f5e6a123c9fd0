use Rattle.std.proofs.Common.{◌≡◌, ℕ, suc, ◌+◌, ◌-◌, ◌*◌, ◌<◌, length, get_or, pos, arith}
use Rattle.std.proofs.Common.{sym, ap, [], refl}
use Rattle.std.proofs.Common.{◌∙◌, subst}
use Rattle.set_minima.specs.Packs.{better, IsBest}
use Rattle.set_minima.proofs.OneColour.{layer-start, layer-end}
use Rattle.set_minima.specs.Cells.{cell, found}
use Rattle.knap_bound.specs.Items.{let_in}
use Rattle.set_minima.proofs.CellNumbers.{found-max}
use Rattle.set_minima.proofs.LayersRaised.{near-copied, near-layer}
use Rattle.mill_model.specs.Limits.{all_prices}
use Rattle.knap_bound.proofs.colour_layers.raise_layer.Goals as goal

pub returns-clause-best : goal.returns-clause-best
returns-clause-best c out colour k run below here l b =
    let width = length c.args.table.now in
    let n1 : length c.copy_layer.new.table ≡ width = c.copy_layer.auto.table in
    let n2 : length c.add_run.new.table ≡ length c.copy_layer.new.table = c.add_run.auto.table in
    let rest = c.args.packing.now.rest.now in
    let prices = c.args.packing.now.prices.now in
    let before = let_in rest c.args.packing.now.items.now out c.args.packing.now.skip
    c.args.run.0 in
    let after = let_in rest c.args.packing.now.items.now out c.args.packing.now.skip c.args.run.1 in
    let e : cell c.better_layer.new.tables (c.args.t * width + l)
    ≡ better (cell c.args.tables.now (c.args.t * width + l)) (cell c.add_run.new.table l) =
    ap found (c.better_layer.ensures.here l (omega arith))
    ∙ found-max (get_or c.args.tables.now (c.args.t * width + l) (pos 0))
    (get_or c.add_run.new.table l (pos 0)) in
    let copied = λ (i : ℕ) (q : i < length c.copy_layer.new.table).
    subst (λ x. IsBest before [] k rest prices i (found x))
    (sym (c.copy_layer.ensures i (omega arith))) (below i (omega arith)) in
    subst (λ z. IsBest after [] (suc k) rest prices l z) (sym e)
    (layer-end rest before after [] colour run.next refl prices (suc k) l
    (cell c.args.tables.now (c.args.t * width + l)) (cell c.add_run.new.table l) (here l b)
    (c.add_run.ensures.best out colour (suc k) run
    (λ i q. layer-start rest before after [] colour run.next refl prices k i
    (cell c.copy_layer.new.table i) (copied i q)) l (omega arith)))

pub returns-clause-near : goal.returns-clause-near
returns-clause-near c n h =
    let width = length c.args.table.now in
    let n1 : length c.copy_layer.new.table ≡ width = c.copy_layer.auto.table in
    near-layer n (n + all_prices) (c.args.t * width) c.args.tables.now
    c.better_layer.new.tables c.add_run.new.table (omega arith) h
    (c.add_run.ensures.near n (near-copied n ((c.args.t - 1) * width) c.args.tables.now
    c.copy_layer.new.table (λ l b. c.copy_layer.ensures l (omega arith)) h))
    c.better_layer.ensures.here c.better_layer.ensures.other
