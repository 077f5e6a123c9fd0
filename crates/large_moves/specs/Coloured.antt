-- Orders with their places in the file, those of each colour together.
use Rattle.std.specs.Prelude.{ℕ, ◌<◌, ◌≡◌, ◌≢◌, Bool, true, List, map, ltb, length, slice_index}
use Rattle.std.specs.List.Sorted.{IsPermutation}
use Rattle.mill_model.specs.Rank.{Placed}
use Rattle.mill_model.specs.declared.order.Order.{Order}
use Rattle.pair_split.specs.Splits.{grouped}
use Rattle.large_moves.specs.declared.coloured.Coloured.{Coloured}

abbrev pub placed_of : Coloured → Placed
placed_of coloured = record { order = coloured.order; place = coloured.home }

abbrev pub orders_of : List Coloured → List Order
orders_of coloured = map (λ c. c.order) coloured

abbrev pub homes_of : List Coloured → List ℕ
homes_of coloured = map (λ c. c.home) coloured

abbrev pub has_lower_colour : Coloured → Coloured → Bool
has_lower_colour a b = ltb a.order.colour b.order.colour

-- the slabs that a plan of the file's orders gives them
abbrev pub plan_of : List Coloured → List ℕ → List ℕ
plan_of coloured plan = map (λ c. slice_index plan c.home) coloured

-- ranked orders, those of each colour together
pub record IsByColour (ranked : List Placed) (coloured : List Coloured) : Type 0 where
  pub same : IsPermutation ranked (map placed_of coloured)
  pub together : grouped (orders_of coloured) ≡ true

-- places in a file of n orders, each once
pub record AreHomes (homes : List ℕ) (n : ℕ) : Type 0 where
  pub within : (k : ℕ) → k < length homes → slice_index homes k < n
  pub apart : (i k : ℕ) → i < k → k < length homes → slice_index homes i ≢ slice_index homes k
