use Rattle.std.proofs.Common.{◌≡◌, suc, ◌+◌, length, arith}
use Rattle.set_minima.proofs.LayersRaised.{spread-more, near-put, near-all}
use Rattle.knap_bound.proofs.colour_layers.spread_layer.Goals as goal

pub loop-t-preserved : goal.loop-t-preserved
loop-t-preserved c =
    let e : c.loop-t.t + 1 ≡ suc c.loop-t.t = omega arith in
    record {
      is = λ s h i b.
          spread-more c.loop-t.t (length c.args.table.now) c.loop-t.tables c.put_layer.new.tables
          c.args.table.now (λ j. length c.args.table.now) c.loop-t.invariant.is
          c.put_layer.ensures.here c.put_layer.ensures.other s (omega arith) i b;
      near = λ n k i b.
          near-put n c.loop-t.t c.loop-t.tables c.put_layer.new.tables c.args.table.now k
          (c.loop-t.invariant.near n k) c.put_layer.ensures.here c.put_layer.ensures.other i
          (rw e at b);
    }

pub returns-clause-near : goal.returns-clause-near
returns-clause-near c n k =
    let e : c.loop-t.t ≡ c.args.layers = omega (arith, c.loop-t-test.false, c.loop-t.auto.t-end) in
    near-all n c.loop-t.tables (λ i b. c.loop-t.invariant.near n k i
    (rw e (omega (arith, b, c.loop-t.auto.tables, c.requires))))
