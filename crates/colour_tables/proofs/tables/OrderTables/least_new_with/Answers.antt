use Rattle.std.proofs.Common.{◌≡◌, ◌<◌, None, get_or, set, sym, ap, subst, arith}
use Rattle.mill_model.specs.Bounds.{least_new_with}
use Rattle.mill_model.specs.Charges.{charge_of}
use Rattle.mill_model.specs.declared.order.Order.{Order}
use Rattle.set_minima.specs.Packs.{nobody}
use Rattle.colour_tables.specs.Leasts.{two_colours}
use Rattle.colour_tables.specs.PricedOrders.{PricedOrders, IsTurnOf}
use Rattle.colour_tables.proofs.CannotJoin.{cannot-fit}
use Rattle.colour_tables.proofs.tables.OrderTables.least_new_with.Goals as goal

pub returns-else-order-self-clause-is : goal.returns-else-order-self-clause-is
returns-else-order-self-clause-is c price =
    let t = c.self.inside in
    let place = c.args.turn.now.place in
    let turn = subst (λ (o : PricedOrders). IsTurnOf o c.args.turn.now) (sym c.self.view_is)
    c.requires.turn in
    let same : c.order.result ≡ get_or t.rest.items c.args.turn.now.place nobody =
    subst (λ (o : PricedOrders). c.order.result ≡ get_or o.rest c.args.turn.now.place nobody)
    (sym c.self.view_is) c.order.ensures in
    let heavy : t.largest < (get_or t.rest.items c.args.turn.now.place nobody).weight =
    omega (arith, ap (λ (o : Order). o.weight) same, c.if-order-self.false) in
    subst (λ (o : PricedOrders). least_new_with (two_colours o.largest) (charge_of o.charges) o.rest
    (set o.prices place price) place ≡ None) c.self.view_is
    (cannot-fit (charge_of t.charges.now) t.largest t.rest.items t.prices.items place price
    turn.tables.here c.self.invariant.row_tables.same heavy)
