-- The price changes in the list, in the run and in the row, so all three go by the same prices.
use Rattle.std.proofs.Common.{◌<◌, ◌∷◌, [], ◌≡◌, ◌∙◌, true, get_or, length, set, ◌+◌, sym, ap}
use Rattle.std.proofs.Common.{subst, arith, SFits}
use Rattle.std.proofs.Common.{w64, to_z-of_z, rules}
use Rattle.list_laws.specs.Sets.{holds}
use Rattle.set_minima.specs.Packs.{colour_at, nobody}
use Rattle.mill_model.specs.declared.order.Order.{Order}
use Rattle.colour_tables.specs.Threes.{once}
use Rattle.colour_tables.specs.Items.{item_at}
use Rattle.colour_tables.specs.Colours.{but_order}
use Rattle.colour_tables.specs.Owned.{AreRuns, IsFound}
use Rattle.colour_tables.specs.Rowed.{AreRows}
use Rattle.colour_tables.specs.PricedOrders.{PricedOrders, IsTurnOf}
use Rattle.colour_tables.proofs.PricesSet.{small-set}
use Rattle.colour_tables.proofs.TurnTables.{front-of}
use Rattle.colour_tables.proofs.tables.OrderTables.set_price.Goals as goal

pub invariant_of-self : goal.invariant_of-self
invariant_of-self c =
    let f : SFits w64 c.args.price = search rules in
    let t = c.self.inside in
    let i = c.self.invariant in
    let q = subst (λ (o : PricedOrders). IsTurnOf o c.args.turn.now) (sym c.self.view_is)
    c.requires.turn in
    let same : c.order-weight.result ≡ get_or t.rest.items c.args.turn.now.place nobody =
    subst (λ (o : PricedOrders). c.order-weight.result ≡ get_or o.rest c.args.turn.now.place nobody)
    (sym c.self.view_is) c.order-weight.ensures in
    let d = c.args.turn.now.colour in
    let j = c.args.turn.now.place in
    let held : holds d t.rows.present.items ≡ true =
    subst (λ xs. holds d xs ≡ true) (sym i.present) q.known in
    let at = c.position-at.result in
    let found : IsFound t.runs d j at = c.position-at.ensures.is t.rest.items t.prices.items (get_or
    t.colours.items d 0)
    (i.run_orders d held) q.tables.here q.tables.colour in
    let is : (item_at t.runs.items.items c.position-at.result).place ≡ c.args.turn.now.place =
    found.is in
    let rows : AreRows t.rest.items (set t.prices.items c.args.turn.now.place c.args.price)
    (λ c. get_or t.colours.items c 0) c.set_price-2.new.self =
    simp to_z-of_z at (c.set_price-2.ensures.is t.rest.items t.prices.items (λ c. get_or
    t.colours.items c 0)
    j i.row_tables q.tables.here q.tables.colour (ap (λ (o : Order). o.weight) same)
    (front-of (but_order t.rest.items (get_or t.colours.items d 0) j)
    (get_or t.colours.items d 0 ∷ []) 1 t.rest.items t.prices.items (t.largest + 1) t.rows.width
    c.args.turn.now.alone.items c.deref_mut.result.now (omega (arith, i.width))
    c.deref_mut.ensures.value q.tables.alone)) in
    let runs : AreRuns t.rest.items
    (set t.prices.items (item_at t.runs.items.items c.position-at.result).place c.args.price)
    (λ c. get_or t.colours.items c 0) t.rows.present.items c.set_price.new.self =
    simp to_z-of_z at (c.set_price.ensures.is t.rest.items t.prices.items
    (λ c. get_or t.colours.items c 0)
    t.rows.present.items d i.run_orders i.row_tables.once held found.in_run
    (subst (λ z. z < length t.rest.items) (sym is) q.tables.here)
    (ap (λ z. colour_at t.rest.items z) is ∙ q.tables.colour)) in
    simp to_z-of_z (record {
      few = i.few;
      priced = small-set t.prices.items j c.args.price i.priced c.requires.price;
      shaped = c.set_price-2.ensures.shaped;
      width = c.set_price-2.ensures.width ∙ i.width;
      present = c.set_price-2.ensures.present ∙ i.present;
      once = subst (λ xs. once xs ≡ true) (sym c.set_price-2.ensures.present) i.once;
      safe = λ x h.
          c.set_price.ensures.safe x (i.safe x (subst (λ xs. holds x xs ≡ true)
          c.set_price-2.ensures.present h));
      row_tables = rows;
      run_orders =
          subst (λ xs. AreRuns t.rest.items (set t.prices.items j c.args.price)
          (λ c. get_or t.colours.items c 0) xs c.set_price.new.self)
          (sym c.set_price-2.ensures.present)
          (subst (λ z. AreRuns t.rest.items (set t.prices.items z c.args.price)
          (λ c. get_or t.colours.items c 0) t.rows.present.items c.set_price.new.self) is
          runs);
      reach = i.reach;
      charged = i.charged;
      small = i.small;
    })
