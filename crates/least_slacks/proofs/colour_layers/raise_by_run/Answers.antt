-- A copy of the layer below lets the run in; load by load, the layer here is bettered by it.
use Rattle.std.proofs.Common.{◌≡◌, ℕ, suc, ◌+◌, ◌-◌, ◌*◌, ◌<◌, ◌≤◌, ◌⊎◌, length, get_or, pos, arith}
use Rattle.std.proofs.Common.{sym, ap, [], refl, inl, inr}
use Rattle.std.proofs.Common.{◌∙◌, subst}
use Rattle.set_minima.specs.Packs.{better, IsBest}
use Rattle.set_minima.proofs.OneColour.{layer-start, layer-end}
use Rattle.set_minima.specs.Cells.{cell, found}
use Rattle.least_slacks.specs.Items.{let_in}
use Rattle.set_minima.proofs.CellNumbers.{found-max}
use Rattle.set_minima.proofs.LayersRaised.{near-copied, near-layer}
use Rattle.mill_model.specs.declared.prices.TheConstants.{MAX_PRICE}
use Rattle.least_slacks.proofs.colour_layers.raise_by_run.Goals as goal

pub returns-clause-raised : goal.returns-clause-raised
returns-clause-raised c =
    let width = length c.args.table.now in
    let n1 : length c.copy_layer.new.table ≡ width = c.copy_layer.auto.table in
    let n2 : length c.add_run.new.table ≡ length c.copy_layer.new.table = c.add_run.auto.table in
    let rest = c.args.later.now.rest.now in
    let prices = c.args.later.now.prices.now in
    record {
      best = λ letting colour k run below here l b.
          (let before = let_in rest c.args.later.now.items.now letting c.args.run.0 in
          let after = let_in rest c.args.later.now.items.now letting c.args.run.1 in
          let e : cell c.better_layer.new.tables (c.args.here + l)
          ≡ better (cell c.args.tables.now (c.args.here + l)) (cell c.add_run.new.table l) =
          ap found (c.better_layer.ensures.here l (omega arith))
          ∙ found-max (get_or c.args.tables.now (c.args.here + l) (pos 0))
          (get_or c.add_run.new.table l (pos 0)) in
          let copied = λ (i : ℕ) (q : i < length c.copy_layer.new.table).
          subst (λ x. IsBest before [] k rest prices i (found x))
          (sym (c.copy_layer.ensures i (omega arith))) (below i (omega arith)) in
          subst (λ z. IsBest after [] (suc k) rest prices l z) (sym e)
          (layer-end rest before after [] colour run.next refl prices (suc k) l
          (cell c.args.tables.now (c.args.here + l)) (cell c.add_run.new.table l) (here l b)
          (c.add_run.ensures.best letting colour (suc k) run
          (λ i q. layer-start rest before after [] colour run.next refl prices k i
          (cell c.copy_layer.new.table i) (copied i q)) l (omega arith))));
      other = λ i h. c.better_layer.ensures.other i (apart i h);
    }
  where
    apart : (i : ℕ) → i < c.args.here ⊎ c.args.here + length c.args.table.now ≤ i →
        i < c.args.here ⊎ c.args.here + length c.add_run.new.table ≤ i
    apart i (inl h) = inl h
    apart i (inr h) =
        let n1 : length c.copy_layer.new.table ≡ length c.args.table.now = c.copy_layer.auto.table
        in
        let n2 : length c.add_run.new.table ≡ length c.copy_layer.new.table = c.add_run.auto.table
        in
        inr (omega arith)

pub returns-clause-near : goal.returns-clause-near
returns-clause-near c n h =
    let width = length c.args.table.now in
    let n1 : length c.copy_layer.new.table ≡ width = c.copy_layer.auto.table in
    near-layer n (n + (c.args.run.1 - c.args.run.0) * MAX_PRICE) c.args.here
    c.args.tables.now
    c.better_layer.new.tables c.add_run.new.table (omega arith) h
    (c.add_run.ensures.near n (near-copied n c.args.below c.args.tables.now
    c.copy_layer.new.table (λ l b. c.copy_layer.ensures l (omega arith)) h))
    c.better_layer.ensures.here c.better_layer.ensures.other
