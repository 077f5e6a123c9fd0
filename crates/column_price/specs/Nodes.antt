-- A node with prices for the orders that it has not placed, and the least slacks of its groups.
use Rattle.std.specs.Prelude.{ℕ, ◌<◌, ◌≤◌, ◌≡◌, true, All, List, length, ℤ, pos, slice_index_or}
use Rattle.mill_model.specs.Charges.{ChargeTable, charge_of}
use Rattle.mill_model.specs.Limits.{IsPrice}
use Rattle.mill_model.specs.Prices.{least_slack, valid, worth}
use Rattle.mill_model.specs.Bounds.{ascent_prices, swept}
use Rattle.mill_model.specs.Tree.{later_orders, next_new}
use Rattle.mill_model.specs.declared.order.Order.{Order}
use Rattle.order_symmetry.specs.Ranked.{orders_of}
use Rattle.set_minima.specs.Cells.{IsSmall, slack_limit}
use Rattle.knap_bound.specs.Later.{Later, later_from}
use Rattle.knap_bound.specs.Knapsacks.{IsLater}
use Rattle.split_tree.specs.Node.{Node, IsNode, group_of}

-- a node, what loads are charged there, and a price for each order that it has not placed
pub record Pricing : Type 0 where
  pub node : Node
  pub charges : ChargeTable
  pub prices : List ℤ

-- the same node and charges with other prices
abbrev pub with_prices : Pricing → List ℤ → Pricing
with_prices pricing prices = record {
  node = pricing.node;
  charges = pricing.charges;
  prices = prices;
}

-- the orders that a node has not placed
abbrev pub rest_of : Node → List Order
rest_of node = later_orders (orders_of node.ranked) node.path

-- a price for each of them, within the limits of a price
pub record AreFor (node : Node) (prices : List ℤ) : Type 0 where
  pub one_each : length prices ≡ length (rest_of node)
  pub within : All IsPrice prices

-- what each pricing keeps
pub record IsPricing (pricing : Pricing) : Type 0 where
  pub node : IsNode pricing.node
  pub prices : AreFor pricing.node pricing.prices
  pub some_colour : 1 ≤ pricing.node.ranked.mill.most_colours

-- a knapsack is for the orders that a node has not placed
pub record IsAt (node : Node) (later : Later) : Type 0 where
  pub same : later ≡ later_from node.ranked later.charges (length node.path)
  pub limits : IsLater later

-- no order is heavier than the largest size
abbrev pub EachIsLight : Node → Type 0
EachIsLight node = All (λ order. order.weight ≤ node.ranked.mill.largest) (orders_of node.ranked)

-- valid prices, and what they are worth
abbrev pub are_valid : Node → (ℕ → ℕ) → List ℤ → Type 0
are_valid node charge prices = valid node.ranked.mill charge (rest_of node) prices ≡ true

abbrev pub worth_at : Node → (ℕ → ℕ) → List ℤ → ℤ
worth_at node charge prices =
    worth node.ranked.mill charge (orders_of node.ranked) node.path prices

-- the ascent's prices, and prices after one sweep
abbrev pub ascent_at : Node → (ℕ → ℕ) → List ℤ
ascent_at node charge =
    ascent_prices node.ranked.mill charge (orders_of node.ranked) node.path

abbrev pub swept_at : Node → (ℕ → ℕ) → List ℤ → List ℤ
swept_at node charge prices =
    swept node.ranked.mill charge (orders_of node.ranked) node.path prices

-- the least slack of each group under prices
pub record AreSlacks (node : Node) (charge : ℕ → ℕ) (prices slacks : List ℤ) : Type 0 where
  pub count : length slacks ≡ next_new node.path
  pub each :
      (g : ℕ) → g < length slacks → slice_index_or slacks g (pos 0)
      ≡ least_slack node.ranked.mill charge (group_of node g) (rest_of node) prices
  pub small : All (IsSmall slack_limit) slacks

-- the least slack of each group under a pricing's prices, which are valid
pub record AreValidSlacks (pricing : Pricing) (slacks : List ℤ) : Type 0 where
  pub of_valid : are_valid pricing.node (charge_of pricing.charges) pricing.prices
  pub are_least : AreSlacks pricing.node (charge_of pricing.charges) pricing.prices slacks
