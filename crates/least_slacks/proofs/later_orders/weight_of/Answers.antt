use Rattle.std.proofs.Common.{◌≡◌, ◌+◌, ◌≤◌, ◌∷◌, ◌∙◌, ap, drop, get_or, arith}
use Rattle.std.proofs.lemmas.List.{drop_more}
use Rattle.mill_model.specs.Slab.{load}
use Rattle.set_minima.specs.Packs.{nobody}
use Rattle.least_slacks.proofs.later_orders.weight_of.Goals as goal

light : (c : goal.After-row_known-1) →
    (get_or c.args.rest.now c.loop-order.order-index nobody).weight ≤ 1000000
light c =
    (c.requires.light c.loop-order.order-index nobody c.loop-order-test.true).0.1

pub overflow_add-weight : goal.overflow_add-weight
overflow_add-weight c =
    omega (arith, light c, c.loop-order.invariant.small, c.requires.few, c.loop-order-test.true)

pub loop-order-preserved : goal.loop-order-preserved
loop-order-preserved c =
    let i = c.loop-order.order-index in
    let d : drop i c.args.rest.now
    ≡ get_or c.args.rest.now i nobody ∷ drop (i + 1) c.args.rest.now =
    drop_more c.args.rest.now i nobody c.loop-order-test.true in
    let e : load (drop i c.args.rest.now)
    ≡ (get_or c.args.rest.now i nobody).weight + load (drop (i + 1) c.args.rest.now) =
    ap load d in
    record {
      is = c.loop-order.invariant.is ∙ omega (arith, e);
      small = omega (arith, light c, c.loop-order.invariant.small);
    }
