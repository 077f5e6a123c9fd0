-- The instance that a seed gives.
use Rattle.std.specs.Prelude.{ℕ, zero, suc, ◌+◌, ◌*◌, ◌%◌, List, [], ◌∷◌, ◌++◌}
use Rattle.mill_model.specs.Instance.{Problem}
use Rattle.mill_model.specs.Small.{twenty_sizes}
use Rattle.mill_model.specs.declared.order.Order.{Order}
use Rattle.instance_drill.specs.Draws.{draw}

-- The order at a place, counted from 0. Each takes two draws: its weight is from the first of them,
-- and its colour from the second.
abbrev pub order_at : ℕ → ℕ → Order
order_at seed place = record {
  weight = 1 + draw seed (2 * place) % 22;
  colour = 1 + draw seed (2 * place + 1) % 20;
}

-- so many orders, one after the other
abbrev pub orders_from : ℕ → ℕ → List Order
orders_from seed zero = []
orders_from seed (suc count) = orders_from seed count ++ order_at seed count ∷ []

-- the sizes of its slabs
abbrev pub sizes : List ℕ
sizes = twenty_sizes

-- the instance of so many orders, whose slabs may carry p colours
abbrev pub drilled : ℕ → ℕ → ℕ → Problem
drilled seed count p = record {
  sizes = sizes;
  stated = 20;
  orders = orders_from seed count;
  p = p;
}
