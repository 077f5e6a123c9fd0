-- The tables that serve a node with prices.
use Rattle.std.specs.Prelude.{◌≡◌}
use Rattle.colour_tables.specs.Grouped.{GroupedOrders}
use Rattle.split_tree.specs.Node.{AreGroups}
use Rattle.column_price.specs.Nodes.{Pricing, IsAt, rest_of}
use Rattle.column_price.specs.declared.slacks.Tables.{Tables}
use Rattle.column_price.specs.declared.slacks.Tables.TheVariants.{Colours, Layers}

-- tables of two colours hold the node's later orders with their prices, and its groups
pub record AreOf (pricing : Pricing) (tables : GroupedOrders) : Type 0 where
  pub same :
      tables
      ≡ record {
        orders = rest_of pricing.node;
        prices = pricing.prices;
        groups = tables.groups;
        mill = pricing.node.ranked.mill;
        charges = pricing.charges;
      }
  pub groups : AreGroups pricing.node tables.groups

abbrev pub Serves : Pricing → Tables → Type 0
Serves pricing (Colours tables) = AreOf pricing tables
Serves pricing (Layers later) = IsAt pricing.node later × (later.charges ≡ pricing.charges)
