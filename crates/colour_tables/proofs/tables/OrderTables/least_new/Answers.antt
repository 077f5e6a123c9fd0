use Rattle.std.proofs.Common.{◌≡◌, ◌+◌, ℕ, ℤ, List, get_or, length, sym, subst, arith}
use Rattle.std.proofs.Common.{pos, ◌*◌, ◌≤◌, IfSome, []}
use Rattle.mill_model.specs.Charges.{charge_of}
use Rattle.colour_tables.specs.Entries.{entry}
use Rattle.colour_tables.specs.PricedOrders.{PricedOrders}
use Rattle.mill_model.specs.declared.order.TheConstants.{MAX_ORDERS}
use Rattle.set_minima.specs.Cells.{IsSmall}
use Rattle.colour_tables.specs.Entries.{AreSmallAll}
use Rattle.colour_tables.specs.Leasts.{table_slack_limit}
use Rattle.colour_tables.specs.Leasts.{two_colours}
use Rattle.std.specs.List.{list_any}
use Rattle.colour_tables.proofs.SlacksWithin.{least_of-within}
use Rattle.colour_tables.proofs.tables.OrderTables.least_new.Goals as goal

pub returns-clause-is : goal.returns-clause-is
returns-clause-is c =
    let t = c.self.inside in
    let i = c.self.invariant in
    let name : ℕ → ℕ = λ c. get_or t.colours.items c 0 in
    let charge : ℕ → ℕ = charge_of t.charges.now in
    let work : length c.args.work.now ≡ t.largest + 1 =
    subst (λ (o : PricedOrders). length c.args.work.now ≡ o.largest + 1) (sym c.self.view_is)
    c.requires.work in
    rw (← c.self.view_is) (c.least_new.ensures.is t.rest.items t.prices.items name charge t.largest
    i.row_tables i.run_orders (record { fits = omega arith; wide = omega (arith, work) })
    (λ l b. subst (λ (xs : List ℤ). entry xs l ≡ pos (60 * charge (0 + l)))
    (sym c.deref.ensures.value) (i.charged l (omega (arith, b, work)))))

pub returns-clause-small : goal.returns-clause-small
returns-clause-small c =
    let o = c.args.self.now in
    let i = c.self.invariant in
    let few = subst (λ (o : PricedOrders). length o.prices ≤ MAX_ORDERS) c.self.view_is
    (omega (arith, i.few, i.row_tables.same)) in
    let priced = subst (λ (o : PricedOrders). AreSmallAll o.prices) c.self.view_is i.priced in
    subst (λ found. IfSome found (IsSmall table_slack_limit)) (sym (returns-clause-is c))
    (least_of-within o.charges o.rest o.prices few priced (two_colours o.largest) []
    (list_any (λ mark. mark)))
