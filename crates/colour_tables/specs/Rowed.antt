-- What the rows of the colours to come are: one table a colour, of the sets of that colour alone,
-- and by load the three greatest of their values.
use Rattle.std.specs.Prelude.{ℕ, ◌<◌, ◌≤◌, ◌≡◌, Bool, true, ◌||◌, List, [], ◌∷◌, length, map, ℤ}
use Rattle.std.specs.Prelude.{pos}
use Rattle.list_laws.specs.Sets.{holds}
use Rattle.mill_model.specs.declared.order.Order.{Order}
use Rattle.set_minima.specs.Packs.{colour_at, IsTable}
use Rattle.set_minima.specs.Joins.{AreOrders}
use Rattle.colour_tables.specs.Entries.{entry}
use Rattle.set_minima.specs.Cells.{found, AreNear}
use Rattle.colour_tables.specs.Threes.{once, row_entry, AreWithin, AreTops}
use Rattle.colour_tables.specs.Colours.{of_colour, of_colours, but_order}
use Rattle.colour_tables.specs.declared.colour_rows.Rows.{Rows}
use Rattle.colour_tables.specs.Entries.{row_limit}

-- the lists are as long as they have to be, their numbers are not large, and the three greatest
-- are those of the rows
pub record IsShaped (t : Rows) : Type 0 where
  pub wide : 0 < t.width
  pub narrow : t.width ≤ 20001
  pub within : AreWithin t.width (length t.rows.items) t.present.items
  pub best : length t.best.items ≡ t.width
  pub second : length t.second.items ≡ t.width
  pub third : length t.third.items ≡ t.width
  pub tops : AreTops t.width t.present.items t.rows.items t.best.items t.second.items t.third.items
  pub first : entry t.best.items 0 ≡ pos 0
  pub near : AreNear row_limit t.rows.items

-- each row is the table of a colour alone, and each order has one of the colours
pub record AreRows (rest : List Order) (prices : List ℤ) (name : ℕ → ℕ) (t : Rows) : Type 0 where
  pub orders : AreOrders rest
  pub same : length prices ≡ length rest
  pub once : once (map name t.present.items) ≡ true
  pub rows : (c : ℕ) → holds c t.present.items ≡ true →
      IsTable (of_colour rest (name c)) (name c ∷ []) 1 rest prices t.width
      (λ l. found (row_entry t.rows.items t.width l c))
  pub all : (i : ℕ) → i < length rest → holds (colour_at rest i) (map name t.present.items) ≡ true

-- orders of the other colours, and of a colour but for one order
abbrev pub apart_from : List Order → List ℕ → ℕ → ℕ → ℕ → Bool
apart_from rest others c j i = of_colours rest others i || but_order rest c j i

-- the lists are as long as they have to be, whatever stands in them
pub record IsSized (t : Rows) : Type 0 where
  pub wide : 0 < t.width
  pub narrow : t.width ≤ 20001
  pub within : AreWithin t.width (length t.rows.items) t.present.items
  pub best : length t.best.items ≡ t.width
  pub second : length t.second.items ≡ t.width
  pub third : length t.third.items ≡ t.width
  pub near : AreNear row_limit t.rows.items
