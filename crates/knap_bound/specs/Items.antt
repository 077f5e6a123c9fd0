-- The later orders, each once, colour by colour: an item for each of them.
use Rattle.std.specs.Prelude.{ℕ, ◌<◌, ◌≤◌, ◌≡◌, Bool, false, not, ◌&&◌, ◌||◌, eqb, List, length}
use Rattle.std.specs.Prelude.{take, slice_index_or}
use Rattle.std.specs.List.{list_any}
use Rattle.list_laws.specs.Sets.{holds}
use Rattle.mill_model.specs.declared.order.Order.{Order}
use Rattle.set_minima.specs.Packs.{colour_at, IsNextColour}
use Rattle.set_minima.specs.Joins.{all_but}
use Rattle.knap_bound.specs.declared.orders_by_colour.Item.{Item}

-- an item past the last one
abbrev pub no_item : Item
no_item = record { place = 0; colour = 0 }

abbrev pub item_at : List Item → ℕ → Item
item_at items t = slice_index_or items t no_item

-- each order once, colour by colour
pub record AreItems (rest : List Order) (items : List Item) : Type 0 where
  pub count : length items ≡ length rest
  pub inside : (t : ℕ) → t < length items → (item_at items t).place < length rest
  pub coloured :
      (t : ℕ) → t < length items → (item_at items t).colour ≡ colour_at rest (item_at items t).place
  pub rise :
      (s t : ℕ) → s ≤ t → t < length items → (item_at items s).colour ≤ (item_at items t).colour
  pub apart :
      (s t : ℕ) → s < t → t < length items →
      eqb (item_at items s).place (item_at items t).place ≡ false
  pub all :
      (i : ℕ) → i < length rest → (t : ℕ) × (t < length items) × ((item_at items t).place ≡ i)

-- whether an order is one of the first t items
abbrev pub placed : List Item → ℕ → ℕ → Bool
placed items t i = list_any (λ item. eqb i item.place) (take t items)

-- whether an order has one of some colours
abbrev pub owned : List Order → List ℕ → ℕ → Bool
owned rest own i = holds (colour_at rest i) own

-- whether an order has none of the colours that are left out, and isn't the skipped one
abbrev pub others : List Order → List ℕ → ℕ → ℕ → Bool
others rest out skip i = not (owned rest out i) && all_but skip i

-- the same among the first t items alone, and the same or among them
abbrev pub let_in : List Order → List Item → List ℕ → ℕ → ℕ → ℕ → Bool
let_in rest items out skip t i = others rest out skip i && placed items t i

abbrev pub joined_in : List Order → List Item → List ℕ → ℕ → ℕ → ℕ → Bool
joined_in rest items out skip t i = others rest out skip i || (placed items t i && all_but skip i)

-- items from one place to another are those of one colour
pub record IsStretch (items : List Item) (at end : ℕ) : Type 0 where
  pub some : at < end
  pub ends : end ≤ length items
  pub alike : (t : ℕ) → at ≤ t → t < end → (item_at items t).colour ≡ (item_at items at).colour
  pub before : (s : ℕ) → s < at → (item_at items s).colour < (item_at items at).colour
  pub after :
      (t : ℕ) → end ≤ t → t < length items → (item_at items at).colour < (item_at items t).colour

-- the same, where the colour isn't left out
pub record IsRun (rest : List Order) (items : List Item) (out : List ℕ) (skip at end colour : ℕ)
    : Type 0 where
  pub order : at ≤ end
  pub ends : end ≤ length items
  pub alike : (t : ℕ) → at ≤ t → t < end → colour_at rest (item_at items t).place ≡ colour
  pub not_out : holds colour out ≡ false
  pub next :
      IsNextColour rest (let_in rest items out skip at) (let_in rest items out skip end) colour

-- no order is let in
abbrev pub no_place : ℕ → Bool
no_place i = false
