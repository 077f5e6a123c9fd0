-- Items: orders of the rest by place, with their weights and prices, and runs of one colour.
use Rattle.std.specs.Prelude.{ℕ, ◌<◌, ◌≤◌, ◌≡◌, Bool, true, ◌&&◌, ◌||◌, eqb, List, length}
use Rattle.std.specs.Prelude.{ℤ, pos, map, take, slice_index_or, Option}
use Rattle.list_laws.specs.Sets.{holds}
use Rattle.mill_model.specs.declared.order.Order.{Order}
use Rattle.set_minima.specs.Packs.{colour_at, nobody}
use Rattle.set_minima.specs.Cells.{IsSmall}
use Rattle.colour_tables.specs.Threes.{once}
use Rattle.colour_tables.specs.Colours.{but_for}
use Rattle.colour_tables.specs.declared.items.Item.{Item}
use Rattle.mill_model.specs.declared.prices.TheConstants.{MAX_PRICE}
use Rattle.mill_model.specs.declared.order.TheConstants.{MAX_ORDERS}

abbrev pub places : List Item → List ℕ
places run = map (λ item. item.place) run

abbrev pub no_item : Item
no_item = record { place = 0; weight = 0; price = pos 0 }

abbrev pub item_at : List Item → ℕ → Item
item_at run t = slice_index_or run t no_item

-- an item is an order with its price
pub record IsItem (rest : List Order) (prices : List ℤ) (item : Item) : Type 0 where
  pub inside : item.place < length rest
  pub weighs : item.weight ≡ (slice_index_or rest item.place nobody).weight
  pub priced : item.price ≡ slice_index_or prices item.place (pos 0)

-- a run is all orders of a colour, each of them once
pub record IsRun (rest : List Order) (prices : List ℤ) (c : ℕ) (run : List Item) : Type 0 where
  pub same : length prices ≡ length rest
  pub items : (t : ℕ) → t < length run → IsItem rest prices (item_at run t)
  pub apart : once (places run) ≡ true
  pub whole :
      (i : ℕ) → i < length rest → holds i (places run) ≡ eqb (colour_at rest i) c

-- which orders are allowed once the first t items of a run are, but for the one to skip
abbrev pub let_in : (ℕ → Bool) → List Item → Option ℕ → ℕ → ℕ → Bool
let_in before run skip t i = before i || (holds i (places (take t run)) && but_for skip i)

-- what a run can hold: few items with small prices, each with some weight
pub record AreSmall (run : List Item) : Type 0 where
  pub few : length run ≤ MAX_ORDERS
  pub weights : (t : ℕ) → t < length run → 0 < (item_at run t).weight
  pub prices : (t : ℕ) → IsSmall MAX_PRICE (item_at run t).price
