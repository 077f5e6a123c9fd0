-- Whichever tables serve the node, what they say of a group holds of the node's.
use Rattle.std.proofs.Common.{◌∙◌, ℕ, ℤ, List, rules, subst, ap, SFits, w64, to_z-of_z}
use Rattle.colour_tables.specs.Grouped.{GroupedOrders}
use Rattle.mill_model.specs.Prices.{least_slack}
use Rattle.mill_model.specs.Slab.{Mill}
use Rattle.mill_model.specs.declared.order.Order.{Order}
use Rattle.column_price.specs.Nodes.{Pricing}
use Rattle.column_price.specs.Served.{Serves}
use Rattle.column_price.proofs.Served.{group-mill, on-colours, on-layers}
use Rattle.column_price.proofs.slacks.LeastSlacks.on_group.Goals as goal
use Rattle.column_price.proofs.slacks.LeastSlacks.on_group.Goals.{in-Colours, in-Layers}

pub least_on-requires-in-Layers-clause-mill : goal.least_on-requires-in-Layers-clause-mill
least_on-requires-in-Layers-clause-mill c =
    let inside : Pricing = record {
      node = c.self.inside.node.now;
      charges = c.self.inside.charges.now;
      prices = c.self.inside.prices.items;
    } in
    group-mill inside c.in-Layers.knapsack (subst (Serves inside) c.in-Layers.is c.self.invariant.2)
    c.groups-groups.result.now c.groups-groups.ensures.is c.args.g c.index-groups-g.result
    (search rules) c.index-groups-g.is

pub returns-clause-is : goal.returns-clause-is
returns-clause-is c =
    let inside : Pricing = record {
      node = c.self.inside.node.now;
      charges = c.self.inside.charges.now;
      prices = c.self.inside.prices.items;
    } in
    let found = λ (group : List Order) (mill : Mill) (charge : ℕ → ℕ) (rest : List Order)
    (prices : List ℤ). least_slack mill charge group rest prices in
    elim c.match-self.branch [
      | in-Colours w ↦ (let of = subst (Serves inside) w.in-Colours.is c.self.invariant.2 in
          let f : SFits w64 w.least_on.result = search rules in
          (simp to_z-of_z at w.result-is)
          ∙ on-colours c.args.self.now inside c.self.view_is found c.args.g
          w.in-Colours.tables.prices (ap (λ (t : GroupedOrders). t.prices) of.same)
          w.least_on.result w.in-Colours.tables of c.requires.group
          (λ group carries fits. w.least_on.ensures.is group carries))
      | in-Layers w ↦ (let f : SFits w64 w.least_on-in-Layers.result = search rules in
          (simp to_z-of_z at w.result-is)
          ∙ on-layers c.args.self.now inside c.self.view_is found c.args.g w.deref.result.now
          w.deref.ensures.value w.least_on-in-Layers.result w.in-Layers.knapsack
          (subst (Serves inside) w.in-Layers.is c.self.invariant.2) c.groups-groups.result.now
          c.groups-groups.ensures.is w.index-groups-g.result (search rules) w.index-groups-g.is
          w.least_on-in-Layers.ensures.is)
    ]
