-- Orders to come with their prices, and the groups that they may join, as public clauses see them;
-- and what is kept beside the tables of the orders.
use Rattle.std.specs.Prelude.{ℕ, ◌+◌, ◌<◌, ◌≡◌, Bool, true, List, length, ℤ, set, slice_index_or}
use Rattle.mill_model.specs.Slab.{Mill}
use Rattle.mill_model.specs.Charges.{ChargeTable}
use Rattle.mill_model.specs.declared.order.Order.{Order}
use Rattle.slab_rules.specs.OpenSlab.{OpenSlab, Carries, empty_on}
use Rattle.colour_tables.specs.Leasts.{two_colours}
use Rattle.colour_tables.specs.PricedOrders.{PricedOrders, IsKnown, StandsFor, IsTurnOf}
use Rattle.colour_tables.specs.declared.slab.Own.TheVariants.{Full}
use Rattle.colour_tables.specs.declared.slab.Slab.{Slab}
use Rattle.colour_tables.specs.declared.turn.Turn.{Turn}

-- orders in rank with a price for each, the groups that they may join, the mill that makes the
-- slabs, and what each load is charged
pub record GroupedOrders : Type 0 where
  pub orders : List Order
  pub prices : List ℤ
  pub groups : List OpenSlab
  pub mill : Mill
  pub charges : ChargeTable

-- the same with another price for one order
abbrev pub with_price_at : GroupedOrders → ℕ → ℤ → GroupedOrders
with_price_at grouped i price = record {
  orders = grouped.orders;
  prices = set grouped.prices i price;
  groups = grouped.groups;
  mill = grouped.mill;
  charges = grouped.charges;
}

-- past the last group stands an empty slab
abbrev pub group_at : List OpenSlab → ℕ → OpenSlab
group_at groups g = slice_index_or groups g (empty_on (two_colours 0))

-- a group has these orders on it
abbrev pub IsGroup : GroupedOrders → ℕ → List Order → Type 0
IsGroup grouped g orders = Carries (group_at grouped.groups g) orders

-- each group is a slab of the mill, with some order on it
abbrev pub AreGroups : ℕ → List OpenSlab → Type 0
AreGroups largest groups =
    (g : ℕ) → g < length groups →
    ((group_at groups g).mill ≡ two_colours largest) × (0 < length (group_at groups g).colours)

abbrev pub slab_at : List Slab → ℕ → Slab
slab_at slabs g = slice_index_or slabs g (record { load = 0; own = Full })

-- the first groups as the tables know them
pub record AreKnown (orders : PricedOrders) (groups : List OpenSlab) (slabs : List Slab) : Type 0
  where
    pub known : (g : ℕ) → g < length slabs → IsKnown orders (slab_at slabs g)
    pub stands :
        (g : ℕ) → g < length slabs → (group : List Order) → Carries (group_at groups g) group →
        StandsFor orders group (slab_at slabs g)

-- all groups are known, there is room to work in, and the tables of a turn that was begun are those
-- of its order
pub record IsServed (orders : PricedOrders) (groups : List OpenSlab) (slabs : List Slab)
    (turn : Turn) (in_turn : Bool) (work : List ℤ) : Type 0 where
  pub count : length slabs ≡ length groups
  pub groups_known : AreKnown orders groups slabs
  pub alone : length turn.alone.items ≡ orders.largest + 1
  pub beside : length turn.beside.items ≡ orders.largest + 1
  pub begun : in_turn ≡ true → IsTurnOf orders turn
  pub room : length work ≡ orders.largest + 1
