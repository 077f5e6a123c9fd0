-- Orders that no slab holds.
use Rattle.std.specs.Prelude.{◌≡◌, ℕ, ◌<◌, ◌≤◌, List, take, slice_get, All, Option, Some, None}
use Rattle.mill_model.specs.Instance.{Problem, largest}
use Rattle.mill_model.specs.declared.order.Order.{Order}

-- no order weighs more than this size
abbrev pub NoneHeavy : ℕ → List Order → Type 0
NoneHeavy size orders = All (λ order. order.weight ≤ size) orders

-- the first order that no slab holds, counted from 0
pub record IsFirstHeavy (problem : Problem) (place : ℕ) : Type 0 where
  pub order : Order
  pub here : slice_get problem.orders place ≡ Some order
  pub heavy : largest problem.sizes < order.weight
  pub before : NoneHeavy (largest problem.sizes) (take place problem.orders)

-- the first such order, where there is one
abbrev pub IsFirstHeavyIfAny : Problem → Option ℕ → Type 0
IsFirstHeavyIfAny problem None = NoneHeavy (largest problem.sizes) problem.orders
IsFirstHeavyIfAny problem (Some place) = IsFirstHeavy problem place
