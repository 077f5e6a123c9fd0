-- Whichever tables serve the node, what they say of a group holds of the node's.
use Rattle.std.proofs.Common.{◌∙◌, ℕ, ℤ, List, rules, subst}
use Rattle.mill_model.specs.Bounds.{least_on_without}
use Rattle.mill_model.specs.Slab.{Mill}
use Rattle.mill_model.specs.declared.order.Order.{Order}
use Rattle.column_price.specs.Nodes.{Pricing}
use Rattle.column_price.specs.Served.{Serves}
use Rattle.column_price.proofs.Served.{group-mill, on-colours, on-layers}
use Rattle.column_price.proofs.slacks.LeastSlacks.on_group_without.Goals as goal
use Rattle.column_price.proofs.slacks.LeastSlacks.on_group_without.Goals.{in-Colours, in-Layers}

pub least_on_without-requires-clause-mill : goal.least_on_without-requires-clause-mill
least_on_without-requires-clause-mill c =
    let inside : Pricing = record {
      node = c.self.inside.node.now;
      charges = c.self.inside.charges.now;
      prices = c.self.inside.prices.items;
    } in
    group-mill inside c.in-Layers.knapsack (subst (Serves inside) c.in-Layers.is c.self.invariant.2)
    c.groups-groups.result.now c.groups-groups.ensures.is c.args.g c.index-groups-g.result
    (search rules) c.index-groups-g.is

pub returns-clause-is : goal.returns-clause-is
returns-clause-is c =
    let inside : Pricing = record {
      node = c.self.inside.node.now;
      charges = c.self.inside.charges.now;
      prices = c.self.inside.prices.items;
    } in
    let found = λ (group : List Order) (mill : Mill) (charge : ℕ → ℕ) (rest : List Order)
    (prices : List ℤ). least_on_without mill charge group rest prices c.args.i in
    elim c.match-self.branch [
      | in-Colours w ↦ w.result-is
          ∙ on-colours c.args.self.now inside c.self.view_is found c.args.g w.deref.result.now
          w.deref.ensures.value w.least_on_without_at.result w.in-Colours.tables
          (subst (Serves inside) w.in-Colours.is c.self.invariant.2) c.requires.group
          (λ group carries fits. w.least_on_without_at.ensures.is group carries fits)
      | in-Layers w ↦ w.result-is
          ∙ on-layers c.args.self.now inside c.self.view_is found c.args.g
          w.deref-in-Layers.result.now w.deref-in-Layers.ensures.value
          w.least_on_without.result w.in-Layers.knapsack
          (subst (Serves inside) w.in-Layers.is c.self.invariant.2) c.groups-groups.result.now
          c.groups-groups.ensures.is w.index-groups-g.result (search rules) w.index-groups-g.is
          w.least_on_without.ensures.is
    ]
