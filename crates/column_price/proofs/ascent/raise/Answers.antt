-- Price by price: the first ones are the ascent's, the others still zero.
use Rattle.std.proofs.Common.{◌≡◌, ◌<◌, ◌∙◌, ℤ, List, length, arith, rules, ap, sym, subst, SFits}
use Rattle.std.proofs.Common.{w64}
use Rattle.std.proofs.Common.{to_z-of_z}
use Rattle.mill_model.specs.Charges.{charge_of}
use Rattle.mill_model.specs.Limits.{IsPrice}
use Rattle.mill_model.specs.Bounds.{ascent, ascent_slacks, least_of, or_zero}
use Rattle.mill_laws.proofs.Ascent.{ascent-length}
use Rattle.order_symmetry.specs.Ranked.{orders_of}
use Rattle.column_price.specs.Nodes.{Pricing, AreSlacks, rest_of}
use Rattle.column_price.proofs.AtNode.{ascent-price}
use Rattle.column_price.proofs.ValidSlacks.{slacks-stay}
use Rattle.column_price.proofs.ascent.raise.Goals as goal

pub ascent_price-price-requires-clause-here : goal.ascent_price-price-requires-clause-here
ascent_price-price-requires-clause-here c =
    let start = c.args.slacks.now in
    omega (
      arith,
      c.loop-i-test.true,
      ap length c.prices-i-end.ensures.is,
      c.prices-i-end.ensures.kept.prices.one_each,
      ap (λ (p : Pricing). length p.prices) c.loop-i.invariant,
      ascent-length start.node.ranked.mill (charge_of start.charges)
          (orders_of start.node.ranked) start.node.path c.loop-i.i,
    )

pub set_price-requires-clause-here : goal.set_price-requires-clause-here
set_price-requires-clause-here c =
    let start = c.args.slacks.now in
    omega (
      arith,
      c.loop-i-test.true,
      ap length c.prices-i-end.ensures.is,
      c.prices-i-end.ensures.kept.prices.one_each,
      ap (λ (p : Pricing). length p.prices)
          (c.ascent_price-price.ensures.kept ∙ c.loop-i.invariant),
      ascent-length start.node.ranked.mill (charge_of start.charges)
          (orders_of start.node.ranked) start.node.path c.loop-i.i,
    )

pub set_price-requires-clause-price : goal.set_price-requires-clause-price
set_price-requires-clause-price c =
    let start = c.args.slacks.now in
    let kept = c.prices-i-end.ensures.kept in
    let i = c.loop-i.i in
    let y = c.ascent_price-price.result in
    let f : SFits w64 y = search rules in
    let here : i < length (rest_of start.node) =
    omega (arith, c.loop-i-test.true, ap length c.prices-i-end.ensures.is, kept.prices.one_each) in
    let is = subst (λ (p : Pricing). y ≡ or_zero (least_of (ascent_slacks p.node.ranked.mill
    (charge_of p.charges) (orders_of p.node.ranked) p.node.path p.prices i))) c.loop-i.invariant
    c.ascent_price-price.ensures.is in
    simp to_z-of_z (subst IsPrice (sym is)
    (ascent-price start.node kept.node kept.some_colour c.requires.light start.charges i here
    (ascent start.node.ranked.mill (charge_of start.charges) (orders_of start.node.ranked)
    start.node.path i) (λ j. ascent start.node.ranked.mill (charge_of start.charges)
    (orders_of start.node.ranked) start.node.path i)))

pub returns-clause-firsts : goal.returns-clause-firsts
returns-clause-firsts c =
    let start = c.args.slacks.now in
    let charge = charge_of start.charges in
    let kept = c.prices-i-end.ensures.kept in
    let n : c.loop-i.i ≡ length (rest_of start.node) =
    omega (
      arith,
      c.loop-i-test.false,
      c.loop-i.auto.i-end,
      ap length c.prices-i-end.ensures.is,
      kept.prices.one_each,
    ) in
    let zero = subst (λ (ys : List ℤ). AreSlacks start.node charge ys c.args.firsts.now)
    c.requires.zeros c.requires.firsts in
    subst (λ (ys : List ℤ). AreSlacks start.node charge ys c.args.firsts.now)
    (sym (ap (λ (p : Pricing). p.prices) c.loop-i.invariant
    ∙ ap (λ i. ascent start.node.ranked.mill charge (orders_of start.node.ranked) start.node.path i)
    n)) (slacks-stay start.node kept.node charge c.args.firsts.now zero)
