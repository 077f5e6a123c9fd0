-- The best of the sets beside the order are in the turn's table, up to the room that it leaves.
use Rattle.std.proofs.Common.{pos, ◌+◌, ◌-◌, ◌≤◌, ◌∷◌, [], ℕ, get_or, length, sym, ap, subst, arith}
use Rattle.std.proofs.Common.{◌≡◌, take, drop}
use Rattle.std.proofs.Common.{SFits, w64, to_z-of_z, rules}
use Rattle.mill_model.specs.Charges.{charge_of}
use Rattle.set_minima.specs.Packs.{nobody}
use Rattle.set_minima.specs.Joins.{all_but}
use Rattle.colour_tables.specs.Leasts.{IsRoom, AreCharged}
use Rattle.mill_model.specs.declared.order.Order.{Order}
use Rattle.colour_tables.specs.PricedOrders.{PricedOrders, IsTurnOf}
use Rattle.colour_tables.proofs.PaidCharges.{charged-from}
use Rattle.colour_tables.proofs.TurnTables.{front-of}
use Rattle.mill_model.specs.declared.order.TheConstants.{MAX_ORDERS}
use Rattle.colour_tables.specs.Entries.{AreSmallAll}
use Rattle.colour_tables.specs.Leasts.{two_colours}
use Rattle.mill_model.specs.Bounds.{in_set}
use Rattle.colour_tables.proofs.SlacksWithin.{small-from}
use Rattle.colour_tables.proofs.tables.OrderTables.least_fitting.Goals as goal

pub returns-clause-is : goal.returns-clause-is
returns-clause-is c =
    let t = c.self.inside in
    let i = c.self.invariant in
    let name : ℕ → ℕ = λ c. get_or t.colours.items c 0 in
    let charge : ℕ → ℕ = charge_of t.charges.now in
    let q = subst (λ (o : PricedOrders). IsTurnOf o c.args.turn.now) (sym c.self.view_is)
    c.requires.turn in
    let d = c.args.turn.now.colour in
    let j = c.args.turn.now.place in
    let same : c.order-weight.result ≡ get_or t.rest.items c.args.turn.now.place nobody =
    subst (λ (o : PricedOrders). c.order-weight.result ≡ get_or o.rest c.args.turn.now.place nobody)
    (sym c.self.view_is) c.order-weight.ensures in
    let weight : ℕ = c.order-weight.result.weight in
    let heft : ℕ = (get_or t.rest.items c.args.turn.now.place nobody).weight in
    let weighs : weight ≡ heft = ap (λ (o : Order). o.weight) same in
    let fits : heft ≤ t.largest =
    subst (λ (o : PricedOrders). (get_or o.rest c.args.turn.now.place nobody).weight ≤ o.largest)
    (sym c.self.view_is) c.requires.fits in
    let room : IsRoom t.largest weight (t.largest - weight + 1) =
    record { fits = omega (arith, fits, weighs); wide = omega arith } in
    let f : SFits w64 c.least_new_with.result = search rules in
    rw (← c.self.view_is) (λ price.
    simp to_z-of_z (c.least_new_with.ensures.is t.rest.items t.prices.items charge t.largest
    (name d) j i.row_tables.same q.tables.here q.tables.colour
    (front-of (all_but j) (name d ∷ []) 2 t.rest.items t.prices.items (t.largest + 1)
    (t.largest - weight + 1) c.args.turn.now.beside.items c.deref-2.result.now (omega arith)
    c.deref-2.ensures.value q.tables.mates)
    (subst (λ w. IsRoom t.largest w (t.largest - weight + 1)) weighs room)
    (subst (λ w. AreCharged charge w (t.largest - weight + 1)
    (take (length c.deref.result.now - weight) (drop weight c.deref.result.now))) weighs
    (charged-from charge t.largest weight (t.largest - weight + 1) t.paid.items
    c.deref.result.now c.deref.ensures.value i.reach i.charged room)) price))

pub returns-clause-small : goal.returns-clause-small
returns-clause-small c =
    let o = c.args.self.now in
    let i = c.self.invariant in
    let f : SFits w64 c.least_new_with.result = search rules in
    let few = subst (λ (o : PricedOrders). length o.prices ≤ MAX_ORDERS) c.self.view_is
    (omega (arith, i.few, i.row_tables.same)) in
    let priced = subst (λ (o : PricedOrders). AreSmallAll o.prices) c.self.view_is i.priced in
    let e = returns-clause-is c (pos 0) in
    simp to_z-of_z (small-from o.charges o.rest o.prices few priced c.args.turn.now.place
    (two_colours o.largest)
    [] (in_set c.args.turn.now.place) c.least_new_with.result
    (simp to_z-of_z at e))
