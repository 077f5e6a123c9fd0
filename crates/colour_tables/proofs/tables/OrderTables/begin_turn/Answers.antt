-- The order's colour is one of those that the tables know, so its run gives the tables of the turn.
use Rattle.std.proofs.Common.{ℕ, ◌≡◌, ◌∙◌, ◌+◌, ◌<◌, true, false, map, length, get_or, refl, sym}
use Rattle.std.proofs.Common.{ap, subst, rules}
use Rattle.std.proofs.Common.{eqb, eq-eqb}
use Rattle.std.proofs.lemmas.List.{with_items_is}
use Rattle.list_laws.specs.Sets.{holds}
use Rattle.list_laws.proofs.Tests.{clash}
use Rattle.list_laws.proofs.Different.{below-holds}
use Rattle.set_minima.specs.Packs.{colour_at}
use Rattle.set_minima.specs.Cells.{AreNear}
use Rattle.set_minima.specs.Packs.{nobody}
use Rattle.colour_tables.specs.PricedOrders.{PricedOrders}
use Rattle.mill_model.specs.declared.order.Order.{Order}
use Rattle.colour_tables.proofs.KnownColours.{order-known}
use Rattle.colour_tables.proofs.TurnTables.{turn-from}
use Rattle.colour_tables.proofs.tables.OrderTables.begin_turn.Goals as goal
use Rattle.mill_model.specs.Limits.{all_prices}
use Rattle.colour_tables.specs.Entries.{table_limit}

pub begin_turn-requires-clause-colour : goal.begin_turn-requires-clause-colour
begin_turn-requires-clause-colour c =
    let t = c.self.inside in
    subst (λ xs. holds c.in-Some.colour xs ≡ true) (sym c.self.invariant.present)
    (below-holds c.in-Some.colour (length t.colours.items)
    (subst (λ xs. c.in-Some.colour < length xs) c.deref.ensures.value
    (c.in-Some.ensures.found c.in-Some.colour refl)))

pub returns-in-Some-clause-turn : goal.returns-in-Some-clause-turn
returns-in-Some-clause-turn c =
    let t = c.self.inside in
    let i = c.self.invariant in
    let d = c.in-Some.colour in
    let name : ℕ → ℕ = λ c. get_or t.colours.items c 0 in
    let here : c.args.place < length t.rest.items =
    subst (λ (o : PricedOrders). c.args.place < length o.rest) (sym c.self.view_is)
    c.requires.here in
    let same : c.order.result ≡ get_or t.rest.items c.args.place nobody =
    subst (λ (o : PricedOrders). c.order.result ≡ get_or o.rest c.args.place nobody)
    (sym c.self.view_is) c.order.ensures in
    let at : colour_at t.rest.items c.args.place ≡ get_or t.colours.items c.in-Some.colour 0 =
    sym (subst (λ xs. get_or xs c.in-Some.colour 0 ≡ c.order.result.colour) c.deref.ensures.value
    (c.in-Some.ensures.is c.in-Some.colour refl) ∙ ap (λ (o : Order). o.colour) same) in
    let long : length c.args.turn.now.alone.items ≡ t.largest + 1 =
    subst (λ (o : PricedOrders). length c.args.turn.now.alone.items ≡ o.largest + 1)
    (sym c.self.view_is) c.requires.alone in
    let wide : length c.args.turn.now.beside.items ≡ t.largest + 1 =
    subst (λ (o : PricedOrders). length c.args.turn.now.beside.items ≡ o.largest + 1)
    (sym c.self.view_is) c.requires.beside in
    let n : length c.begin_turn.new.alone ≡ length c.args.turn.now.alone.items = search rules in
    let m : length c.begin_turn.new.beside ≡ length c.args.turn.now.beside.items = search rules in
    let k : length c.begin_turn.new.alone ≡ c.args.turn.now.alone.len = search rules in
    let l : length c.begin_turn.new.beside ≡ c.args.turn.now.beside.len = search rules in
    let e = with_items_is c.args.turn.now.alone c.begin_turn.new.alone k in
    let f = with_items_is c.args.turn.now.beside c.begin_turn.new.beside l in
    rw (← c.self.view_is) (record {
      tables =
          turn-from t.rest.items t.prices.items name t.rows.width (t.largest + 1) d c.args.place
          c.begin_turn.new.alone c.begin_turn.new.beside _ _ (sym i.width) e f
          (c.begin_turn.ensures.is t.rest.items t.prices.items name i.row_tables i.run_orders here
          at);
      known = (below-holds c.in-Some.colour (length t.colours.items)
          (subst (λ xs. c.in-Some.colour < length xs) c.deref.ensures.value
          (c.in-Some.ensures.found c.in-Some.colour refl)));
      alone = ap length e ∙ n ∙ long;
      beside = ap length f ∙ m ∙ wide;
      near = subst (λ xs. AreNear all_prices xs) (sym e) c.begin_turn.ensures.alone;
      around = subst (λ xs. AreNear table_limit xs) (sym f) c.begin_turn.ensures.beside;
    })

pub returns-in-None-clause-turn : goal.returns-in-None-clause-turn
returns-in-None-clause-turn c =
    absurd (order-known c.self.invariant c.self.view_is c.deref.ensures.value c.args.place
    c.order.result c.requires.here c.order.ensures c.in-None.ensures)

pub returns-in-None-clause-place : goal.returns-in-None-clause-place
returns-in-None-clause-place c =
    absurd (order-known c.self.invariant c.self.view_is c.deref.ensures.value c.args.place
    c.order.result c.requires.here c.order.ensures c.in-None.ensures)
