-- Slabs: sets of orders, with their load, their colours and what is legal.
use Rattle.std.specs.Prelude.{ℕ, ◌+◌, Bool, ◌&&◌, List, [], ◌∷◌, map, leb}
use Rattle.list_laws.specs.Sets.{different}
use Rattle.mill_model.specs.declared.order.Order.{Order}

-- a mill: the largest size that it makes, and how many colours a slab may carry
pub record Mill : Type 0 where
  pub largest : ℕ
  pub most_colours : ℕ

-- the sum of the weights
abbrev pub load : List Order → ℕ
load [] = 0
load (order ∷ orders) = order.weight + load orders

-- how many colours some orders have
abbrev pub colours : List Order → ℕ
colours orders = different (map (λ order. order.colour) orders)

-- whether some orders may go on one slab: the largest size holds them, and their colours are few
abbrev pub legal : Mill → List Order → Bool
legal mill orders = leb (load orders) mill.largest && leb (colours orders) mill.most_colours
