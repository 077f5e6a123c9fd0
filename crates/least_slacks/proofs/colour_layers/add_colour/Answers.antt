-- From the last layer down: a layer is bettered by the one below, which lacks the colour so far.
use Rattle.std.proofs.Common.{◌≡◌, ℕ, suc, ◌+◌, ◌-◌, ◌*◌, ◌≤◌, ◌∙◌, length, get_or, pos, arith, inl}
use Rattle.std.proofs.Common.{[], ◌<◌, sym, subst, refl}
use Rattle.std.proofs.Common.{mul-le-mul_right, length-set, rules}
use Rattle.set_minima.proofs.CellNumbers.{near-wider}
use Rattle.set_minima.proofs.LayersRaised.{done-raised, done-last}
use Rattle.set_minima.specs.Reaches.{IsReach}
use Rattle.least_slacks.specs.Items.{Letting}
use Rattle.least_slacks.specs.Later.{let_to, IsRunOf, AreReachesOf}
use Rattle.least_slacks.proofs.ReachRaised.{top-reached, reached-more, unreached-more, reached-last}
use Rattle.mill_model.specs.declared.prices.TheConstants.{MAX_PRICE}
use Rattle.least_slacks.proofs.colour_layers.add_colour.Goals as goal

pub raise_layer-requires-clause-inside : goal.raise_layer-requires-clause-inside
raise_layer-requires-clause-inside c =
    let w : length c.loop-t.table ≡ length c.args.table.now = c.loop-t.auto.table in
    let n : length c.loop-t.tables ≡ length c.args.tables.now = c.loop-t.auto.tables in
    fits (c.loop-t.t - 1) c.args.layers (length c.loop-t.table) (length c.args.table.now)
    (length c.loop-t.tables) (length c.args.tables.now) w n c.requires.shape
    (omega (arith, c.loop-t.auto.t))
  where
    fits : (t layers a b m k : ℕ) → a ≡ b → m ≡ k → layers * b ≤ k → t + 1 ≤ layers →
        t * a + a ≤ m
    fits t layers a b m k e f g h =
        let l : (t + 1) * b ≤ layers * b = mul-le-mul_right b h in
        rw e (omega arith)

-- what one layer more adds to a bound, and that there are at most nine
one-more : (n d e x : ℕ) → e ≡ suc d → n + d * x + x ≤ n + e * x
one-more n d e x q = rw q (omega arith)

nine : (n d x : ℕ) → d ≤ 9 → n + d * x ≤ n + 9 * x
nine n d x h = let m : d * x ≤ 9 * x = mul-le-mul_right x h in omega arith

pub raise_layer-requires-clause-near : goal.raise_layer-requires-clause-near
raise_layer-requires-clause-near c l =
    let x = (c.args.run.1 - c.args.run.0) * MAX_PRICE in
    let m = nine 200000000000000000 (c.args.layers - c.loop-t.t) x
    (omega (arith, c.requires.layers)) in
    near-wider (200000000000000000 + (c.args.layers - c.loop-t.t) * x) 288230376151711744
    (get_or c.loop-t.tables l (pos 0))
    (omega (
      arith,
      m,
      c.requires.ends,
      c.requires.later.few,
      c.requires.later.sorted.count,
    ))
    (c.loop-t.invariant.near 200000000000000000 c.requires.near l)

pub loop-t-init : goal.loop-t-init
loop-t-init c = record {
  done = λ letting colour run reached layered s a b. absurd (omega arith);
  old = λ i h. refl;
  reached = λ letting colour run reached s a b. absurd (omega arith);
  unreached = λ s h. refl;
  long = search rules;
  near = λ n h l.
      near-wider n
      (n + (c.args.layers - c.args.layers) * ((c.args.run.1 - c.args.run.0) * MAX_PRICE))
      (get_or c.args.tables.now l (pos 0)) (omega arith) (h l);
}

pub loop-t-preserved : goal.loop-t-preserved
loop-t-preserved c =
    let t = c.loop-t.t - 1 in
    let one : suc t ≡ c.loop-t.t = omega (arith, c.loop-t-test.true) in
    let low : 1 ≤ t = omega (arith, c.loop-t-test.true) in
    let high : c.loop-t.t ≤ c.args.layers = omega (arith, c.loop-t.auto.t) in
    let nine : length c.loop-t.reach ≡ 9 = c.loop-t.invariant.long in
    let long : t < length c.loop-t.reach =
    omega (arith, nine, high, one, c.requires.layers) in
    let x = (c.args.run.1 - c.args.run.0) * MAX_PRICE in
    let further = λ (n : ℕ). one-more n (c.args.layers - c.loop-t.t) (c.args.layers - t) x
    (omega (arith, c.loop-t-test.true, c.loop-t.auto.t)) in
    let w : length c.loop-t.table ≡ length c.args.table.now = c.loop-t.auto.table in
    let best = rw w at c.raise_layer.ensures.best in
    let other = rw w at c.raise_layer.ensures.other in
    let without = c.reach_with-top.ensures.without in
    let beside = c.reach_with-top.ensures.beside in
    let later = c.args.later.now in
    let width = length c.args.table.now in
    let topped : (letting : Letting) (colour : ℕ) →
    IsRunOf later letting c.args.run.0 c.args.run.1 colour →
    AreReachesOf later (let_to later letting c.args.run.0) c.args.layers width c.args.reach →
    IsReach (let_to later letting c.args.run.1) [] t later.rest.now width c.reach_with-top.result =
    λ letting colour run reached.
    top-reached later.rest.now later.prices.now c.requires.later.same later.items.now
    c.requires.later.sorted letting c.args.run.0 c.args.run.1 colour run c.args.layers width
    c.args.reach reached c.loop-t.t t one low high c.loop-t.reach c.loop-t.invariant.unreached
    c.run_weight-weight.result c.reach_with-top.result c.run_weight-weight.ensures.is
    without beside in
    record {
      done = λ letting colour run reached layered.
          done-raised c.args.later.now.rest.now c.args.later.now.prices.now
          (let_to c.args.later.now letting c.args.run.0)
          (let_to c.args.later.now letting c.args.run.1)
          colour c.args.layers (length c.args.table.now) run.next
          c.args.tables.now layered c.loop-t.t t one low high c.loop-t.tables
          c.raise_layer.new.tables (c.loop-t.invariant.done letting colour run reached layered)
          c.loop-t.invariant.old
          (λ k e. best letting colour k run
          (subst (λ s. IsReach (let_to c.args.later.now letting c.args.run.1) [] s
          c.args.later.now.rest.now (length c.args.table.now) c.reach_with-top.result) (sym e)
          (topped letting colour run reached))) other;
      old = λ i h.
          let m : t * length c.args.table.now ≤ c.loop-t.t * length c.args.table.now =
          mul-le-mul_right (length c.args.table.now) (omega arith) in
          other i (inl h) ∙ c.loop-t.invariant.old i (omega arith);
      reached = λ letting colour run reached.
          reached-more later.rest.now later.prices.now c.requires.later.same later.items.now
          c.requires.later.sorted letting c.args.run.0 c.args.run.1 colour run c.args.layers width
          c.args.reach reached c.loop-t.t t one c.loop-t.reach long c.reach_with-top.result
          (topped letting colour run reached)
          (c.loop-t.invariant.reached letting colour run reached);
      unreached =
          unreached-more c.args.reach c.loop-t.t t one c.loop-t.reach c.reach_with-top.result
          c.loop-t.invariant.unreached;
      long = length-set c.loop-t.reach t c.reach_with-top.result ∙ nine;
      near = λ n h l.
          near-wider (n + (c.args.layers - c.loop-t.t) * x + x) (n + (c.args.layers - t) * x)
          (get_or c.raise_layer.new.tables l (pos 0)) (further n)
          (c.raise_layer.ensures.near (n + (c.args.layers - c.loop-t.t) * x)
          (c.loop-t.invariant.near n h) l);
    }

pub returns-clause-best : goal.returns-clause-best
returns-clause-best c letting colour run reached layered =
    done-last c.args.later.now.rest.now c.args.later.now.prices.now
    (let_to c.args.later.now letting c.args.run.0) (let_to c.args.later.now letting c.args.run.1)
    colour c.args.layers (length c.args.table.now) run.next c.args.tables.now layered
    c.loop-t.tables c.loop-t.t (omega (arith, c.loop-t-test.false))
    (c.loop-t.invariant.done letting colour run reached layered) c.loop-t.invariant.old

pub returns-clause-reach : goal.returns-clause-reach
returns-clause-reach c letting colour run reached =
    let later = c.args.later.now in
    reached-last later.rest.now later.prices.now c.requires.later.same later.items.now
    c.requires.later.sorted letting c.args.run.0 c.args.run.1 colour run c.args.layers
    (length c.args.table.now) c.args.reach reached c.loop-t.t
    (omega (arith, c.loop-t-test.false)) c.loop-t.reach
    (c.loop-t.invariant.reached letting colour run reached) c.loop-t.invariant.unreached

pub returns-clause-near : goal.returns-clause-near
returns-clause-near c n h l =
    let x = (c.args.run.1 - c.args.run.0) * MAX_PRICE in
    let m = nine n (c.args.layers - c.loop-t.t) x (omega (arith, c.requires.layers)) in
    near-wider (n + (c.args.layers - c.loop-t.t) * x)
    (n + (c.args.run.1 - c.args.run.0) * (9 * MAX_PRICE)) (get_or c.loop-t.tables l (pos 0))
    (omega (arith, m)) (c.loop-t.invariant.near n h l)
