-- What the tables are made of comes from one sorting of the orders; the rows are filled from it.
use Rattle.std.proofs.Common.{ℕ, ◌≡◌, ◌∙◌, ◌≤◌, ◌+◌, true, length, get_or, sym, subst, arith}
use Rattle.std.proofs.Common.{rules, List}
use Rattle.list_laws.specs.Sets.{below}
use Rattle.mill_model.specs.declared.order.Order.{Order}
use Rattle.colour_tables.specs.Entries.{AreSmallAll}
use Rattle.colour_tables.specs.Owned.{AreRuns, AreRunsSafe}
use Rattle.colour_tables.specs.PricedOrders.{AreTables}
use Rattle.colour_tables.specs.Rowed.{AreRows}
use Rattle.colour_tables.specs.Stretches.{AreOfOrders}
use Rattle.colour_tables.specs.Threes.{once}
use Rattle.colour_tables.proofs.TablesMade.{few-colours, few-runs, made-all, made-names, made-once}
use Rattle.colour_tables.proofs.TablesMade.{made-present, made-runs, made-safe, prices-small}
use Rattle.colour_tables.proofs.tables.OrderTables.new.Goals as goal

pub empty_rows-requires-clause-few : goal.empty_rows-requires-clause-few
empty_rows-requires-clause-few c =
    let made : AreOfOrders c.args.rest.now c.args.prices.now c.in_ok-runs.runs.items.items
    c.in_ok-runs.runs.ends.items c.in_ok-runs.colours.items = search rules in
    let count : c.len.result ≡ length c.in_ok-runs.runs.ends.items = search rules in
    let few = few-runs c.args.rest.now c.args.prices.now c.requires.few c.in_ok-runs.runs
    c.in_ok-runs.colours.items made in
    omega (arith, count, few)

pub fill-requires-clause-safe : goal.fill-requires-clause-safe
fill-requires-clause-safe c =
    let made : AreOfOrders c.args.rest.now c.args.prices.now c.in_ok-runs.runs.items.items
    c.in_ok-runs.runs.ends.items c.in_ok-runs.colours.items = search rules in
    let is : c.in_ok-rows.rows.present.items ≡ below (length c.in_ok-runs.runs.ends.items) =
    search rules in
    made-safe c.args.rest.now c.args.prices.now c.requires.few c.requires.orders c.requires.same
    (prices-small c.args.prices.now c.requires.prices) c.in_ok-runs.runs
    c.in_ok-runs.colours.items made c.in_ok-rows.rows.present.items is

pub fill-requires-clause-once : goal.fill-requires-clause-once
fill-requires-clause-once c =
    let made : AreOfOrders c.args.rest.now c.args.prices.now c.in_ok-runs.runs.items.items
    c.in_ok-runs.runs.ends.items c.in_ok-runs.colours.items = search rules in
    let is : c.in_ok-rows.rows.present.items ≡ below (length c.in_ok-runs.runs.ends.items) =
    search rules in
    made-once c.args.rest.now c.args.prices.now c.requires.few c.requires.orders c.requires.same
    (prices-small c.args.prices.now c.requires.prices) c.in_ok-runs.runs
    c.in_ok-runs.colours.items made c.in_ok-rows.rows.present.items is

pub returns-clause-few : goal.returns-clause-few
returns-clause-few c =
    let made : AreOfOrders c.args.rest.now c.args.prices.now c.in_ok-runs.runs.items.items
    c.in_ok-runs.runs.ends.items c.in_ok-runs.colours.items = search rules in
    few-colours c.args.rest.now c.args.prices.now c.requires.few c.in_ok-runs.runs
    c.in_ok-runs.colours.items made

pub invariant_of-result : goal.invariant_of-result
invariant_of-result c =
    let made : AreOfOrders c.args.rest.now c.args.prices.now c.in_ok-runs.runs.items.items
    c.in_ok-runs.runs.ends.items c.in_ok-runs.colours.items = search rules in
    let runs = c.in_ok-runs.runs in
    let present = c.in_ok-rows.rows.present.items in
    let is : c.in_ok-rows.rows.present.items ≡ below (length c.in_ok-runs.runs.ends.items) =
    search rules in
    let rest = c.args.rest.now in
    let prices = c.args.prices.now in
    let colours = c.in_ok-runs.colours.items in
    let name : ℕ → ℕ = λ x. get_or c.in_ok-runs.colours.items x 0 in
    let small = prices-small c.args.prices.now c.requires.prices in
    let same_orders : c.in_ok-kept_orders.kept_orders.items ≡ c.args.rest.now = search rules in
    let same_prices : c.in_ok-kept_prices.kept_prices.items ≡ c.args.prices.now = search rules in
    let kept = c.fill.ensures.present in
    let of_orders = made-runs rest prices c.requires.few c.requires.orders c.requires.same small
    runs colours made present is in
    let width : c.in_ok-rows.rows.width ≡ c.args.largest + 1 = search rules in
    subst (λ (orders : List Order). AreTables (record {
      rest = orders;
      prices = c.in_ok-kept_prices.kept_prices.items;
      colours = colours;
      largest = c.args.largest;
      charges = c.args.charges.now;
    }) runs c.fill.new.self c.in_ok-paid.paid.items) (sym same_orders) (record {
      few = c.requires.few;
      priced = subst AreSmallAll (sym same_prices) small;
      shaped = c.fill.ensures.shaped;
      width = c.fill.ensures.width ∙ width;
      present =
          kept ∙ made-present rest prices c.requires.few c.requires.orders c.requires.same small
          runs colours made present is;
      once =
          subst (λ xs. once xs ≡ true) (sym kept)
          (made-once rest prices c.requires.few c.requires.orders c.requires.same small
          runs colours made present is);
      safe =
          subst (λ xs. AreRunsSafe xs runs) (sym kept)
          (made-safe rest prices c.requires.few c.requires.orders c.requires.same small
          runs colours made present is);
      row_tables =
          subst (λ xs. AreRows rest xs name c.fill.new.self) (sym same_prices)
          (c.fill.ensures.is rest prices name c.requires.orders c.requires.same
          (made-names rest prices c.requires.few c.requires.orders c.requires.same small
          runs colours made present is)
          (made-all rest prices c.requires.few c.requires.orders c.requires.same small
          runs colours made present is) of_orders);
      run_orders =
          subst (λ xs. AreRuns rest xs name c.fill.new.self.present.items runs) (sym same_prices)
          (subst (λ xs. AreRuns rest prices name xs runs) (sym kept) of_orders);
      reach = c.in_ok-paid.ensures.long;
      charged = c.in_ok-paid.ensures.is;
      small = c.in_ok-paid.ensures.small;
    })
