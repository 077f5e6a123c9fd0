use Rattle.std.proofs.Common.{◌≤◌, ◌≡◌, ◌∙◌, List, length, subst, sym, arith}
use Rattle.std.proofs.Common.{rules, drop}
use Rattle.mill_model.specs.declared.order.Order.{Order}
use Rattle.mill_model.specs.declared.order.TheConstants.{MAX_ORDERS}
use Rattle.order_symmetry.specs.Ranked.{orders_of}
use Rattle.set_minima.specs.Joins.{AreOrders}
use Rattle.set_minima.specs.Packs.{nobody}
use Rattle.knap_bound.proofs.LaterOrders.{later-limits}
use Rattle.colour_tables.specs.Leasts.{two_colours}
use Rattle.column_price.proofs.Served.{known-group}
use Rattle.column_price.proofs.two_colours.tables_of.Goals as goal

pub new-requires-clause-few : goal.new-requires-clause-few
new-requires-clause-few c =
    let ranked = c.ranked-ranked.result.now in
    let is : c.deref.result.now ≡ drop c.depth.result (orders_of ranked) =
    c.deref.ensures.value ∙ c.in_ok-orders.ensures in
    subst (λ (xs : List Order). length xs ≤ MAX_ORDERS) (sym is)
    (later-limits ranked c.largest.ensures.kept c.args.charges.now c.depth.result
    (search rules)).few

pub new-requires-clause-orders : goal.new-requires-clause-orders
new-requires-clause-orders c =
    let ranked = c.ranked-ranked.result.now in
    let is : c.deref.result.now ≡ drop c.depth.result (orders_of ranked) =
    c.deref.ensures.value ∙ c.in_ok-orders.ensures in
    let limits = later-limits ranked c.largest.ensures.kept c.args.charges.now c.depth.result
    (search rules) in
    subst AreOrders (sym is) (λ i b.
    let within = limits.each i nobody b in
    omega (arith, within.0.0))

pub new-requires-clause-groups : goal.new-requires-clause-groups
new-requires-clause-groups c g b =
    let are = c.groups.ensures.is in
    let node = c.args.node.now in
    let group = known-group node c.groups.result.now are g (omega (arith, b, are.count)) in
    let two : node.ranked.mill ≡ two_colours c.largest.result = search rules in
    (group.mill ∙ two, omega (arith, group.some_colour))
