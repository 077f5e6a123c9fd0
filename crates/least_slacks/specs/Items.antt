-- The later orders, each once, colour by colour: an item for each of them.
use Rattle.std.specs.Prelude.{ℕ, ◌<◌, ◌≤◌, ◌≡◌, Bool, true, false, not, ◌&&◌, ◌||◌, eqb, List}
use Rattle.std.specs.Prelude.{length}
use Rattle.std.specs.Prelude.{take, slice_index_or}
use Rattle.std.specs.List.{list_any, sum_by}
use Rattle.list_laws.specs.Sets.{holds}
use Rattle.mill_model.specs.declared.order.Order.{Order}
use Rattle.set_minima.specs.Packs.{nobody, colour_at, IsNextColour}
use Rattle.least_slacks.specs.declared.later_orders.Item.{Item}

-- an item past the last one
abbrev pub no_item : Item
no_item = record { place = 0; colour = 0 }

abbrev pub item_at : List Item → ℕ → Item
item_at items t = slice_index_or items t no_item

-- each order once, colour by colour
pub record AreItems (rest : List Order) (items : List Item) : Type 0 where
  pub count : length items ≡ length rest
  pub inside : (t : ℕ) → t < length items → (item_at items t).place < length rest
  pub coloured :
      (t : ℕ) → t < length items → (item_at items t).colour ≡ colour_at rest (item_at items t).place
  pub rise :
      (s t : ℕ) → s ≤ t → t < length items → (item_at items s).colour ≤ (item_at items t).colour
  pub apart :
      (s t : ℕ) → s < t → t < length items →
      eqb (item_at items s).place (item_at items t).place ≡ false
  pub all :
      (i : ℕ) → i < length rest → (t : ℕ) × (t < length items) × ((item_at items t).place ≡ i)

-- whether an order is one of the first t items
abbrev pub placed : List Item → ℕ → ℕ → Bool
placed items t i = list_any (λ item. eqb i item.place) (take t items)

-- whether an order has one of some colours
abbrev pub owned : List Order → List ℕ → ℕ → Bool
owned rest own i = holds (colour_at rest i) own

-- whether an order has none of the colours that are left out
abbrev pub others : List Order → List ℕ → ℕ → Bool
others rest out i = not (owned rest out i)

-- the colours that are left out before some are let in, and those that still are after that
pub record Letting : Type 0 where
  pub before : List ℕ
  pub after : List ℕ

-- whether an order was let in before, or is let in with the first t items
abbrev pub let_in : List Order → List Item → Letting → ℕ → ℕ → Bool
let_in rest items letting t i =
    others rest letting.before i || (others rest letting.after i && placed items t i)

-- whether an order has none of the colours that are left out, or is among the first t items
abbrev pub joined_in : List Order → List Item → List ℕ → ℕ → ℕ → Bool
joined_in rest items out t i = others rest out i || placed items t i

-- items from one place to another are those of one colour
pub record IsStretch (items : List Item) (at end : ℕ) : Type 0 where
  pub some : at < end
  pub ends : end ≤ length items
  pub alike : (t : ℕ) → at ≤ t → t < end → (item_at items t).colour ≡ (item_at items at).colour
  pub before : (s : ℕ) → s < at → (item_at items s).colour < (item_at items at).colour
  pub after :
      (t : ℕ) → end ≤ t → t < length items → (item_at items at).colour < (item_at items t).colour

-- the same, where the colour is let in
pub record IsRun (rest : List Order) (items : List Item) (letting : Letting) (at end colour : ℕ)
    : Type 0 where
  pub order : at ≤ end
  pub ends : end ≤ length items
  pub alike : (t : ℕ) → at ≤ t → t < end → colour_at rest (item_at items t).place ≡ colour
  pub was_out : holds colour letting.before ≡ true
  pub not_out : holds colour letting.after ≡ false
  pub next :
      IsNextColour rest (let_in rest items letting at) (let_in rest items letting end) colour

-- what the orders of the first t items weigh together
abbrev pub carried : List Order → List Item → ℕ → ℕ
carried rest items t =
    sum_by (λ item. (slice_index_or rest item.place nobody).weight) (take t items)

-- no order is let in
abbrev pub no_place : ℕ → Bool
no_place i = false
