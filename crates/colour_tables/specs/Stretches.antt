-- The orders to come, each once, colour by colour; and where the stretch of each colour stands.
use Rattle.std.specs.Prelude.{ℕ, ◌<◌, ◌≤◌, ◌≡◌, false, eqb, List, length, ℤ, pos}
use Rattle.std.specs.Prelude.{slice_index_or}
use Rattle.mill_model.specs.declared.order.Order.{Order}
use Rattle.set_minima.specs.Packs.{colour_at, nobody}
use Rattle.colour_tables.specs.Items.{item_at}
use Rattle.colour_tables.specs.declared.by_colour.Coloured.{Coloured}
use Rattle.colour_tables.specs.declared.items.Item.{Item}

-- past the last one stands one with no place of its own
abbrev pub no_coloured : Coloured
no_coloured = record { place = 0; colour = 0 }

abbrev pub coloured_at : List Coloured → ℕ → Coloured
coloured_at sorted t = slice_index_or sorted t no_coloured

abbrev pub stretch_at : List (ℕ × ℕ) → ℕ → ℕ × ℕ
stretch_at ends c = slice_index_or ends c (0, 0)

-- each order once, colour by colour
pub record IsByColour (rest : List Order) (sorted : List Coloured) : Type 0 where
  pub count : length sorted ≡ length rest
  pub inside : (t : ℕ) → t < length sorted → (coloured_at sorted t).place < length rest
  pub coloured :
      (t : ℕ) → t < length sorted →
      (coloured_at sorted t).colour ≡ colour_at rest (coloured_at sorted t).place
  pub rise :
      (s t : ℕ) → s ≤ t → t < length sorted →
      (coloured_at sorted s).colour ≤ (coloured_at sorted t).colour
  pub apart :
      (s t : ℕ) → s < t → t < length sorted →
      eqb (coloured_at sorted s).place (coloured_at sorted t).place ≡ false
  pub all :
      (i : ℕ) → i < length rest → (t : ℕ) × (t < length sorted) × ((coloured_at sorted t).place ≡ i)

-- from one place to another stand those of one colour, and all of them
pub record IsStretch (sorted : List Coloured) (at end : ℕ) : Type 0 where
  pub some : at < end
  pub ends : end ≤ length sorted
  pub alike : (t : ℕ) → at ≤ t → t < end → (coloured_at sorted t).colour ≡ (coloured_at sorted
      at).colour
  pub before : (s : ℕ) → s < at → (coloured_at sorted s).colour < (coloured_at sorted at).colour
  pub after :
      (t : ℕ) → end ≤ t → t < length sorted →
      (coloured_at sorted at).colour < (coloured_at sorted t).colour

-- the stretches of the colours up to a place, one after another
pub record AreStretches (sorted : List Coloured) (upto : ℕ) (ends : List (ℕ × ℕ)) : Type 0 where
  pub each : (c : ℕ) → c < length ends →
      IsStretch sorted (stretch_at ends c).0 (stretch_at ends c).1
  pub below : (c : ℕ) → c < length ends → (stretch_at ends c).1 ≤ upto
  pub rise : (c d : ℕ) → c < d → d < length ends → (stretch_at ends c).1 ≤ (stretch_at ends d).0
  pub reach :
      (t : ℕ) → t < upto → (c : ℕ) × (c < length ends) × ((stretch_at ends c).0 ≤ t)
      × (t < (stretch_at ends c).1)

-- the colour of each stretch
pub record AreColours (sorted : List Coloured) (ends : List (ℕ × ℕ)) (colours : List ℕ) : Type 0
  where
    pub count : length colours ≡ length ends
    pub each : (c : ℕ) → c < length ends →
        slice_index_or colours c 0 ≡ (coloured_at sorted (stretch_at ends c).0).colour

-- the item of each order, in the same order
pub record AreItems (rest : List Order) (prices : List ℤ) (sorted : List Coloured)
    (items : List Item) : Type 0 where
  pub count : length items ≡ length sorted
  pub place : (t : ℕ) → t < length sorted → (item_at items t).place ≡ (coloured_at sorted t).place
  pub weighs :
      (t : ℕ) → t < length sorted →
      (item_at items t).weight ≡ (slice_index_or rest (coloured_at sorted t).place nobody).weight
  pub priced :
      (t : ℕ) → t < length sorted →
      (item_at items t).price ≡ slice_index_or prices (coloured_at sorted t).place (pos 0)

-- the items, their stretches and the colours of these come from the same sorting of the orders
pub record AreOfOrders (rest : List Order) (prices : List ℤ) (items : List Item)
    (ends : List (ℕ × ℕ)) (colours : List ℕ) : Type 0 where
  pub sorted : List Coloured
  pub by_colour : IsByColour rest sorted
  pub stretches : AreStretches sorted (length sorted) ends
  pub coloured : AreColours sorted ends colours
  pub priced : AreItems rest prices sorted items
