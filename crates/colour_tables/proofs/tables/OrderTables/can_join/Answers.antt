-- Where weight or colours refuse the order, no set that holds it may join the slab.
use Rattle.std.proofs.Common.{ℕ, ◌≡◌, ◌-◌, ◌≤◌, true, None, map, length, get_or, set, sym}
use Rattle.std.proofs.Common.{ap, subst, arith}
use Rattle.mill_model.specs.declared.order.Order.{Order}
use Rattle.list_laws.specs.Sets.{below}
use Rattle.mill_model.specs.Bounds.{least_on_with}
use Rattle.mill_model.specs.Charges.{charge_of}
use Rattle.set_minima.specs.Packs.{nobody}
use Rattle.colour_tables.specs.Leasts.{two_colours}
use Rattle.colour_tables.specs.Threes.{once}
use Rattle.colour_tables.specs.PricedOrders.{PricedOrders, IsKnown, IsTurnOf, MayJoin, StandsFor}
use Rattle.colour_tables.proofs.CannotJoin.{cannot-join}
use Rattle.colour_tables.proofs.tables.OrderTables.can_join.Goals as goal

pub returns-clause-joins : goal.returns-clause-joins
returns-clause-joins c q =
    let t = c.self.inside in
    let known = subst (λ (o : PricedOrders). IsKnown o c.args.slab) (sym c.self.view_is)
    c.requires.known in
    let r = c.may_join.ensures.yes q in
    let same : c.order-weight.result ≡ get_or t.rest.items c.args.turn.now.place nobody =
    subst (λ (o : PricedOrders). c.order-weight.result ≡ get_or o.rest c.args.turn.now.place nobody)
    (sym c.self.view_is) c.order-weight.ensures in
    let a : c.order-weight.result.weight ≤ t.largest - c.args.slab.load = r.0 in
    subst (λ (o : PricedOrders). MayJoin o c.args.turn.now c.args.slab) c.self.view_is (record {
      fits = omega (arith, ap (λ (o : Order). o.weight) same, a, known.fits);
      takes = r.1;
    })

pub returns-clause-cannot : goal.returns-clause-cannot
returns-clause-cannot c q price group st =
    let t = c.self.inside in
    let i = c.self.invariant in
    let place = c.args.turn.now.place in
    let known = subst (λ (o : PricedOrders). IsKnown o c.args.slab) (sym c.self.view_is)
    c.requires.known in
    let turn = subst (λ (o : PricedOrders). IsTurnOf o c.args.turn.now) (sym c.self.view_is)
    c.requires.turn in
    let stands = subst (λ (o : PricedOrders). StandsFor o group c.args.slab) (sym c.self.view_is)
    st in
    let names = subst (λ xs. once (map (λ x. get_or t.colours.items x 0) xs) ≡ true) i.present
    i.row_tables.once in
    let same : c.order-weight.result ≡ get_or t.rest.items c.args.turn.now.place nobody =
    subst (λ (o : PricedOrders). c.order-weight.result ≡ get_or o.rest c.args.turn.now.place nobody)
    (sym c.self.view_is) c.order-weight.ensures in
    let weight : ℕ = c.order-weight.result.weight in
    subst (λ (o : PricedOrders). least_on_with (two_colours o.largest) (charge_of o.charges) group
    o.rest (set o.prices c.args.turn.now.place price) c.args.turn.now.place ≡ None) c.self.view_is
    (cannot-join t.rest.items (λ x. get_or t.colours.items x 0) (below (length t.colours.items))
    names c.args.turn.now.colour place turn.tables.here turn.tables.colour turn.known
    (charge_of t.charges.now) t.largest c.args.slab.load t.prices.items stands.own
    c.args.slab.own price i.row_tables.same stands.apart known.held stands.is
    (λ f k.
    let a : weight ≤ t.largest - c.args.slab.load =
    omega (arith, ap (λ (o : Order). o.weight) same, f) in
    c.may_join.ensures.no q a k) group stands.of)
