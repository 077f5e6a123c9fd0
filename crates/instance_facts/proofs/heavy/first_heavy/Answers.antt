use Rattle.std.proofs.Common.{◌≤◌, ◌<◌, List, length, get_or, arith, ap, subst}
use Rattle.std.proofs.lemmas.List.{take_all}
use Rattle.std.proofs.lemmas.List.Elements.{All-more}
use Rattle.mill_model.specs.Instance.{largest}
use Rattle.mill_model.specs.declared.order.Order.{Order}
use Rattle.mill_model.specs.Heavy.{NoneHeavy}
use Rattle.instance_facts.proofs.heavy.first_heavy.Goals as goal

pub loop-place-preserved : goal.loop-place-preserved
loop-place-preserved c =
    let none : Order = record { weight = 0; colour = 0 } in
    let problem = c.args.instance.now in
    let same = c.orders-order-items.ensures.is in
    let here : c.loop-place.place < length problem.orders =
    omega (arith, c.loop-place-test.true, ap length same) in
    All-more (λ (order : Order). order.weight ≤ largest problem.sizes) problem.orders
    c.loop-place.place none here c.loop-place.invariant
    (omega (
      arith,
      c.if-order-largest.false,
      c.largest.ensures.is,
      ap (λ (orders : List Order). (get_or orders c.loop-place.place none).weight) same,
    ))

pub returns-clause-first : goal.returns-clause-first
returns-clause-first c =
    let orders = c.args.instance.now.orders in
    let end : length orders ≤ c.loop-place.place =
    omega (arith, c.loop-place-test.false, ap length c.orders-order-items.ensures.is) in
    subst (NoneHeavy (largest c.args.instance.now.sizes)) (take_all c.loop-place.place orders end)
    c.loop-place.invariant
