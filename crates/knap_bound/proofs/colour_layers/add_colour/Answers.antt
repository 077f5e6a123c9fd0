-- From the last layer down: a layer is bettered by the one below, which lacks the colour so far.
use Rattle.std.proofs.Common.{◌≡◌, ℕ, ◌+◌, ◌-◌, ◌*◌, ◌≤◌, ◌∙◌, length, get_or, pos, arith, inl}
use Rattle.std.proofs.Common.{mul-le-mul_right}
use Rattle.set_minima.proofs.CellNumbers.{near-wider}
use Rattle.set_minima.proofs.LayersRaised.{done-raised, done-last}
use Rattle.knap_bound.specs.Packing.{let_to}
use Rattle.mill_model.specs.Limits.{all_prices}
use Rattle.knap_bound.proofs.colour_layers.add_colour.Goals as goal

pub raise_layer-requires-clause-inside : goal.raise_layer-requires-clause-inside
raise_layer-requires-clause-inside c =
    let w : length c.loop-t.table ≡ length c.args.table.now = c.loop-t.auto.table in
    let n : length c.loop-t.tables ≡ length c.args.tables.now = c.loop-t.auto.tables in
    fits (c.loop-t.t - 1) c.args.layers (length c.loop-t.table) (length c.args.table.now)
    (length c.loop-t.tables) (length c.args.tables.now) w n c.requires.shape
    (omega (arith, c.loop-t.auto.t))
  where
    fits : (t layers a b m k : ℕ) → a ≡ b → m ≡ k → layers * b ≤ k → t + 1 ≤ layers →
        t * a + a ≤ m
    fits t layers a b m k e f g h =
        let l : (t + 1) * b ≤ layers * b = mul-le-mul_right b h in
        rw e (omega arith)

pub raise_layer-requires-clause-near : goal.raise_layer-requires-clause-near
raise_layer-requires-clause-near c l =
    near-wider (200000000000000000 + (c.args.layers - c.loop-t.t) * all_prices)
    288230376151711744 (get_or c.loop-t.tables l (pos 0)) (omega (arith, c.requires.layers))
    (c.loop-t.invariant.near 200000000000000000 c.requires.near l)

pub loop-t-init : goal.loop-t-init
loop-t-init c = record {
  done = λ out colour run layered s a b. absurd (omega arith);
  old = λ i h. λ j. get_or c.args.tables.now i (pos 0);
  near = λ n h l.
      near-wider n (n + (c.args.layers - c.args.layers) * all_prices)
      (get_or c.args.tables.now l (pos 0)) (omega arith) (h l);
}

pub loop-t-preserved : goal.loop-t-preserved
loop-t-preserved c =
    let w : length c.loop-t.table ≡ length c.args.table.now = c.loop-t.auto.table in
    let best = rw w at c.raise_layer.ensures.best in
    let other = rw w at c.raise_layer.ensures.other in
    let t = c.loop-t.t - 1 in
    record {
      done = λ out colour run layered.
          done-raised c.args.packing.now.rest.now c.args.packing.now.prices.now
          (let_to c.args.packing.now out c.args.run.0) (let_to c.args.packing.now out c.args.run.1)
          colour c.args.layers (length c.args.table.now) run.next
          c.args.tables.now layered c.loop-t.t t (omega (arith, c.loop-t-test.true))
          (omega (arith, c.loop-t-test.true)) (omega (arith, c.loop-t.auto.t)) c.loop-t.tables
          c.raise_layer.new.tables (c.loop-t.invariant.done out colour run layered)
          c.loop-t.invariant.old (λ k e. best out colour k run) other;
      old = λ i h.
          let m : t * length c.args.table.now ≤ c.loop-t.t * length c.args.table.now =
          mul-le-mul_right (length c.args.table.now) (omega arith) in
          other i (inl h) ∙ c.loop-t.invariant.old i (omega arith);
      near = λ n h l.
          near-wider (n + (c.args.layers - c.loop-t.t) * all_prices + all_prices)
          (n + (c.args.layers - t) * all_prices) (get_or c.raise_layer.new.tables l (pos 0))
          (omega (arith, c.loop-t-test.true, c.loop-t.auto.t))
          (c.raise_layer.ensures.near (n + (c.args.layers - c.loop-t.t) * all_prices)
          (c.loop-t.invariant.near n h) l);
    }

pub returns-clause-best : goal.returns-clause-best
returns-clause-best c out colour run layered =
    done-last c.args.packing.now.rest.now c.args.packing.now.prices.now
    (let_to c.args.packing.now out c.args.run.0) (let_to c.args.packing.now out c.args.run.1)
    colour c.args.layers (length c.args.table.now) run.next c.args.tables.now layered
    c.loop-t.tables c.loop-t.t (omega (arith, c.loop-t-test.false))
    (c.loop-t.invariant.done out colour run layered) c.loop-t.invariant.old

pub returns-clause-near : goal.returns-clause-near
returns-clause-near c n h l =
    near-wider (n + (c.args.layers - c.loop-t.t) * all_prices) (n + (9 * all_prices))
    (get_or c.loop-t.tables l (pos 0)) (omega (arith, c.requires.layers))
    (c.loop-t.invariant.near n h l)
