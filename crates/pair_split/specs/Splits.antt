-- Cheapest splits of some orders, those of each colour together.
use Rattle.std.specs.Prelude.{ℕ, ◌≡◌, Bool, true, ◌&&◌, ◌||◌, not, List, [], ◌∷◌, map, length, eqb}
use Rattle.list_laws.specs.Sets.{holds}
use Rattle.mill_model.specs.Slab.{Mill}
use Rattle.mill_model.specs.Pairs.{legal_split, split_loss, not_bettered}
use Rattle.mill_model.specs.declared.order.Order.{Order}

abbrev pub colours_in : List Order → List ℕ
colours_in orders = map (λ order. order.colour) orders

-- the colour of the first order
abbrev pub front : List Order → ℕ
front [] = 0
front (order ∷ orders) = order.colour

-- whether the orders of each colour stand together
abbrev pub grouped : List Order → Bool
grouped [] = true
grouped (order ∷ orders) =
    (eqb order.colour (front orders) || not (holds order.colour (colours_in orders)))
    && grouped orders

-- a legal split of all orders with its loss, and no legal one loses less; either part may be empty
pub record IsCheapestSplit (mill : Mill) (charge : ℕ → ℕ) (orders : List Order)
    (marks : List Bool) (loss : ℕ) : Type 0 where
  pub whole : length marks ≡ length orders
  pub is_legal : legal_split mill orders marks ≡ true
  pub loses : split_loss charge orders marks ≡ loss
  pub least : not_bettered mill charge loss orders ≡ true
