-- Price by price: the first ones are swept, the others as they were given.
use Rattle.std.proofs.Common.{◌<◌, length, pos, set, arith, ap, sym, subst}
use Rattle.mill_model.specs.Charges.{charge_of}
use Rattle.mill_model.specs.Limits.{IsPrice}
use Rattle.mill_model.specs.Bounds.{sweep, swept_price}
use Rattle.mill_laws.proofs.Sweep.{sweep-length}
use Rattle.order_symmetry.specs.Ranked.{orders_of}
use Rattle.column_price.specs.Nodes.{Pricing, rest_of}
use Rattle.column_price.proofs.AtNode.{sweep-price}
use Rattle.column_price.proofs.sweep.sweep.Goals as goal

pub set_anew-requires-clause-here : goal.set_anew-requires-clause-here
set_anew-requires-clause-here c =
    let start = c.args.slacks.now in
    omega (
      arith,
      c.loop-i-test.true,
      ap length c.prices-i-end.ensures.is,
      ap (λ (p : Pricing). length p.prices) c.loop-i.invariant.swept,
      sweep-length start.node.ranked.mill (charge_of start.charges)
          (orders_of start.node.ranked) start.node.path start.prices c.loop-i.i,
    )

pub set_anew-requires-clause-price : goal.set_anew-requires-clause-price
set_anew-requires-clause-price c =
    let start = c.args.slacks.now in
    let kept = c.prices-i-end.ensures.kept in
    let i = c.loop-i.i in
    let here : i < length (rest_of start.node) =
    omega (arith, c.loop-i-test.true, ap length c.prices-i-end.ensures.is, kept.prices.one_each) in
    let now = sweep start.node.ranked.mill (charge_of start.charges) (orders_of start.node.ranked)
    start.node.path start.prices i in
    subst (λ (p : Pricing). IsPrice (swept_price p.node.ranked.mill (charge_of p.charges)
    (orders_of p.node.ranked) p.node.path (set p.prices i (pos 0)) i))
    (sym c.loop-i.invariant.swept)
    (sweep-price start.node kept.node kept.some_colour c.requires.light start.charges start.prices
    kept.prices c.requires.valid i here now (λ j. now))
