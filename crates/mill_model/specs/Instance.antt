-- An instance: its numbers and their limits, its largest size, and what a load is charged.
use Rattle.std.specs.Prelude.{ℕ, ◌-◌, ◌≤◌, cond, List, [], ◌∷◌, eqb, leb, max, length, Option, Some}
use Rattle.std.specs.Prelude.{None, find, All, Contains}
use Rattle.std.specs.List.Sorted.{IsStrictlyIncreasing}
use Rattle.mill_model.specs.Slab.{Mill}
use Rattle.mill_model.specs.declared.order.Order.{Order}
use Rattle.mill_model.specs.declared.order.TheConstants.{MAX_ORDERS, MAX_SIZES}

-- what an instance says: rising sizes, the stated number of colours, which no rule uses, the
-- orders in the file's order, and how many colours a slab may carry
pub record Problem : Type 0 where
  pub sizes : List ℕ
  pub stated : ℕ
  pub orders : List Order
  pub p : ℕ

abbrev pub IsSize : ℕ → Type 0
IsSize n = (1 ≤ n) × (n ≤ 20000)

abbrev pub IsWeight : ℕ → Type 0
IsWeight n = (1 ≤ n) × (n ≤ 1000000)

abbrev pub IsColour : ℕ → Type 0
IsColour n = (1 ≤ n) × (n ≤ 4096)

abbrev pub IsOrder : Order → Type 0
IsOrder order = IsWeight order.weight × IsColour order.colour

-- all numbers are within the limits
pub record IsWithin (sizes : List ℕ) (stated : ℕ) (orders : List Order) (p : ℕ) : Type 0 where
  pub some_size : 1 ≤ length sizes
  pub few_sizes : length sizes ≤ MAX_SIZES
  pub each_size : All IsSize sizes
  pub stated_limit : stated ≤ 4096
  pub few_orders : length orders ≤ MAX_ORDERS
  pub each_order : All IsOrder orders
  pub p_low : 1 ≤ p
  pub p_high : p ≤ 8

-- the given sizes, rising and each once
pub record AreSizesOf (given sizes : List ℕ) : Type 0 where
  pub rise : IsStrictlyIncreasing sizes
  pub kept : (n : ℕ) → Contains given n → Contains sizes n
  pub only : (n : ℕ) → Contains sizes n → Contains given n

-- what each instance keeps
pub record IsInstance (problem : Problem) : Type 0 where
  pub rise : IsStrictlyIncreasing problem.sizes
  pub within : IsWithin problem.sizes problem.stated problem.orders problem.p

abbrev pub largest : List ℕ → ℕ
largest [] = 0
largest (size ∷ sizes) = max size (largest sizes)

abbrev pub mill_of : Problem → Mill
mill_of problem = record { largest = largest problem.sizes; most_colours = problem.p }

-- the least of rising sizes that is at least the load
abbrev pub size_for : List ℕ → ℕ → Option ℕ
size_for sizes load = find (λ size. leb load size) sizes

-- how much a size, where there is one, exceeds the load
abbrev pub excess : ℕ → Option ℕ → ℕ
excess load None = 0
excess load (Some size) = size - load

-- the least size that is at least the load, minus the load; nothing for no load
abbrev pub loss_charge : List ℕ → ℕ → ℕ
loss_charge sizes load = cond (eqb load 0) 0 (excess load (size_for sizes load))
