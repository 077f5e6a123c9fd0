-- Orders to come with their prices, as clauses see the tables of their sets; and what a slab and an
-- order in its turn are to these tables.
use Rattle.std.specs.Prelude.{ℕ, ◌+◌, ◌<◌, ◌≤◌, ◌≡◌, true, false, List, length, Option, Some, None}
use Rattle.std.specs.Prelude.{ℤ, slice_index_or}
use Rattle.list_laws.specs.Sets.{holds, below, different}
use Rattle.mill_model.specs.Charges.{ChargeTable, charge_of}
use Rattle.mill_model.specs.declared.order.Order.{Order}
use Rattle.set_minima.specs.Packs.{nobody}
use Rattle.set_minima.specs.Joins.{IsSlab}
use Rattle.set_minima.specs.Cells.{AreNear}
use Rattle.colour_tables.specs.Entries.{AreSmallAll}
use Rattle.colour_tables.specs.Threes.{once}
use Rattle.colour_tables.specs.Leasts.{AreCharged}
use Rattle.colour_tables.specs.Rowed.{IsShaped, AreRows}
use Rattle.colour_tables.specs.Owned.{AreRuns, AreRunsSafe, IsHeld, IsOwn, MayTake, IsTurn}
use Rattle.colour_tables.specs.declared.colour_rows.Rows.{Rows}
use Rattle.colour_tables.specs.declared.slabs.Runs.{Runs}
use Rattle.colour_tables.specs.declared.slab.Slab.{Slab}
use Rattle.colour_tables.specs.declared.turn.Turn.{Turn}
use Rattle.mill_model.specs.declared.order.TheConstants.{MAX_ORDERS}
use Rattle.mill_model.specs.Limits.{all_prices}
use Rattle.colour_tables.specs.Entries.{table_limit}

-- the orders, a price for each, the colours that they have, and the largest size with its charges
pub record PricedOrders : Type 0 where
  pub rest : List Order
  pub prices : List ℤ
  pub colours : List ℕ
  pub largest : ℕ
  pub charges : ChargeTable

-- the colour with a number, from 0
abbrev pub colour_of : PricedOrders → ℕ → ℕ
colour_of orders c = slice_index_or orders.colours c 0

-- runs, rows, their three greatest values, and 60 times the charges are those of the orders
pub record AreTables (orders : PricedOrders) (runs : Runs) (rows : Rows) (paid : List ℤ) : Type 0
  where
    pub few : length orders.rest ≤ MAX_ORDERS
    pub priced : AreSmallAll orders.prices
    pub shaped : IsShaped rows
    pub width : rows.width ≡ orders.largest + 1
    pub present : rows.present.items ≡ below (length orders.colours)
    pub once : once rows.present.items ≡ true
    pub safe : AreRunsSafe rows.present.items runs
    pub row_tables : AreRows orders.rest orders.prices (colour_of orders) rows
    pub run_orders : AreRuns orders.rest orders.prices (colour_of orders) rows.present.items runs
    pub reach : length paid ≡ orders.largest + 1
    pub charged : AreCharged (charge_of orders.charges) 0 (orders.largest + 1) paid
    pub small : AreSmallAll paid

-- where a colour stands among some colours, if it is one of them
pub record IsPlaceOf (colours : List ℕ) (colour : ℕ) (place : Option ℕ) : Type 0 where
  pub found : (c : ℕ) → place ≡ Some c → c < length colours
  pub is : (c : ℕ) → place ≡ Some c → slice_index_or colours c 0 ≡ colour
  pub none : place ≡ None → holds colour colours ≡ false

-- a slab with room, whose colours are known by their numbers
pub record IsKnown (orders : PricedOrders) (slab : Slab) : Type 0 where
  pub fits : slab.load ≤ orders.largest
  pub held : IsHeld (below (length orders.colours)) slab.own
  pub own : List ℕ
  pub apart : length own ≡ different own
  pub is : IsOwn orders.rest (colour_of orders) own slab.own

-- the slab of a group
pub record StandsFor (orders : PricedOrders) (group : List Order) (slab : Slab) : Type 0 where
  pub own : List ℕ
  pub apart : length own ≡ different own
  pub of : IsSlab group slab.load own
  pub is : IsOwn orders.rest (colour_of orders) own slab.own

-- an order in its turn: the tables without it
pub record IsTurnOf (orders : PricedOrders) (turn : Turn) : Type 0 where
  pub tables : IsTurn orders.rest orders.prices (colour_of orders) (orders.largest + 1) turn.colour
      turn.place turn.alone.items turn.beside.items
  pub known : holds turn.colour (below (length orders.colours)) ≡ true
  pub alone : length turn.alone.items ≡ orders.largest + 1
  pub beside : length turn.beside.items ≡ orders.largest + 1
  pub near : AreNear all_prices turn.alone.items
  pub around : AreNear table_limit turn.beside.items

-- the order in its turn may join the slab
pub record MayJoin (orders : PricedOrders) (turn : Turn) (slab : Slab) : Type 0 where
  pub fits : slab.load + (slice_index_or orders.rest turn.place nobody).weight ≤ orders.largest
  pub takes : MayTake turn.colour slab.own
