-- What holds of the rows and runs holds of the orders: the charges begin at the slab's load.
use Rattle.std.proofs.Common.{not, ◌≤◌, pos, ◌≡◌, ◌+◌, ◌-◌, ℕ, get_or, length, sym, subst, arith}
use Rattle.std.proofs.Common.{SFits, w64, to_z-of_z, rules, take}
use Rattle.mill_model.specs.Charges.{charge_of}
use Rattle.colour_tables.specs.PricedOrders.{PricedOrders, IsKnown, IsTurnOf}
use Rattle.colour_tables.proofs.PaidCharges.{charged-from, room-of}
use Rattle.colour_tables.proofs.TurnTables.{turn-wide}
use Rattle.mill_model.specs.declared.order.TheConstants.{MAX_ORDERS}
use Rattle.colour_tables.specs.Entries.{AreSmallAll}
use Rattle.colour_tables.specs.Leasts.{two_colours}
use Rattle.mill_model.specs.Bounds.{in_set}
use Rattle.colour_tables.proofs.SlacksWithin.{known-stands, small-some, stand-in}
use Rattle.colour_tables.proofs.tables.OrderTables.least_parted.Goals as goal

pub returns-clause-is : goal.returns-clause-is
returns-clause-is c =
    let t = c.self.inside in
    let i = c.self.invariant in
    let name : ℕ → ℕ = λ c. get_or t.colours.items c 0 in
    let charge : ℕ → ℕ = charge_of t.charges.now in
    let work : length c.args.work.now ≡ t.largest + 1 =
    subst (λ (o : PricedOrders). length c.args.work.now ≡ o.largest + 1) (sym c.self.view_is)
    c.requires.work in
    let known = subst (λ (o : PricedOrders). IsKnown o c.args.slab) (sym c.self.view_is)
    c.requires.known in
    let q = subst (λ (o : PricedOrders). IsTurnOf o c.args.turn.now) (sym c.self.view_is)
    c.requires.turn in
    let room = room-of t.largest c.args.slab.load c.args.work.now known.fits work in
    let f : SFits w64 c.least_without.result = search rules in
    let m = c.tables.ensures in
    let is = rw (m.place, m.colour, m.alone, m.beside) at c.least_without.ensures.is in
    rw (← c.self.view_is) (λ price group st.
    simp to_z-of_z (is t.rest.items t.prices.items name charge
    t.largest c.args.slab.load st.own i.row_tables i.run_orders
    (turn-wide t.rest.items t.prices.items name (t.largest + 1) t.rows.width
    c.args.turn.now.colour c.args.turn.now.place c.args.turn.now.alone.items
    c.args.turn.now.beside.items i.width q.tables) st.is room
    (charged-from charge t.largest c.args.slab.load
    (length (take (t.largest - c.args.slab.load + 1) c.args.work.now)) t.paid.items
    c.deref.result.now c.deref.ensures.value i.reach i.charged room) price group st.of))

pub returns-clause-small : goal.returns-clause-small
returns-clause-small c =
    let o = c.args.self.now in
    let i = c.self.invariant in
    let f : SFits w64 c.least_without.result = search rules in
    let few = subst (λ (o : PricedOrders). length o.prices ≤ MAX_ORDERS) c.self.view_is
    (omega (arith, i.few, i.row_tables.same)) in
    let priced = subst (λ (o : PricedOrders). AreSmallAll o.prices) c.self.view_is i.priced in
    let e = returns-clause-is c (pos 0) (stand-in c.args.slab.load c.requires.known.own)
    (known-stands _ c.args.slab c.requires.known) in
    simp to_z-of_z (small-some o.charges o.rest o.prices few priced c.args.turn.now.place
    (two_colours o.largest)
    (stand-in c.args.slab.load c.requires.known.own)
    (λ marks. not (in_set c.args.turn.now.place marks)) c.least_without.result
    (simp to_z-of_z at e))
