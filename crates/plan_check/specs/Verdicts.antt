-- What a verdict on a plan says.
use Rattle.std.specs.Prelude.{ℕ, ◌≡◌, ◌<◌, ◌≤◌, true, false, List, length}
use Rattle.mill_model.specs.Slab.{Mill, load, colours, legal}
use Rattle.mill_model.specs.Plan.{slab}
use Rattle.mill_model.specs.declared.order.Order.{Order}

-- slab s isn't legal, and each lower one is
pub record IsLowestWrong (mill : Mill) (orders : List Order) (plan : List ℕ) (s : ℕ) : Type 0 where
  pub below : s < length orders
  pub wrong : legal mill (slab s plan orders) ≡ false
  pub lowest : (t : ℕ) → t < s → legal mill (slab t plan orders) ≡ true

-- it is the lowest that isn't legal, and has this load, which no size holds
pub record IsHeavy (mill : Mill) (orders : List Order) (plan : List ℕ)
    (s weight : ℕ) : Type 0 where
  pub lowest_wrong : IsLowestWrong mill orders plan s
  pub weighs : weight ≡ load (slab s plan orders)
  pub heavy : mill.largest < weight

-- it is the lowest that isn't legal though the largest size holds it, and has so many colours
pub record IsColourful (mill : Mill) (orders : List Order) (plan : List ℕ)
    (s count : ℕ) : Type 0 where
  pub lowest_wrong : IsLowestWrong mill orders plan s
  pub light : load (slab s plan orders) ≤ mill.largest
  pub counts : count ≡ colours (slab s plan orders)
