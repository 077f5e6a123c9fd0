-- Plans: a slab number for each order.
use Rattle.std.specs.Prelude.{ℕ, ◌≡◌, ◌≤◌, Bool, true, ◌&&◌, List, map, length, eqb, ltb}
use Rattle.std.specs.List.{list_all}
use Rattle.list_laws.specs.Sets.{total, each_below, chosen}
use Rattle.mill_model.specs.Slab.{Mill, load, legal}
use Rattle.mill_model.specs.declared.order.Order.{Order}

-- the orders whose number is s
abbrev pub slab : ℕ → List ℕ → List Order → List Order
slab s plan orders = chosen (map (λ t. eqb s t) plan) orders

-- whether a plan gives each order a slab number below the number of orders
abbrev pub numbers_each : List ℕ → List Order → Bool
numbers_each plan orders =
    eqb (length plan) (length orders) && list_all (λ s. ltb s (length orders)) plan

-- whether each slab of a plan is legal; an unused one has no order, and is
abbrev pub legal_plan : Mill → List ℕ → List Order → Bool
legal_plan mill plan orders = each_below (length orders) (λ s. legal mill (slab s plan orders))

-- The sum of the charges of the slabs. An unused one has load 0, and the charge of 0 is 0, so
-- this is the sum over the used slabs.
abbrev pub loss : (ℕ → ℕ) → List ℕ → List Order → ℕ
loss charge plan orders = total (length orders) (λ s. charge (load (slab s plan orders)))

-- a legal plan of some orders
pub record IsLegalPlan (mill : Mill) (orders : List Order) (plan : List ℕ) : Type 0 where
  pub each : numbers_each plan orders ≡ true
  pub slabs : legal_plan mill plan orders ≡ true

-- a legal plan of some orders, and what it loses
pub record IsPlanWithLoss (mill : Mill) (charge : ℕ → ℕ) (orders : List Order) (plan : List ℕ)
    (lost : ℕ) : Type 0 where
  pub legal : IsLegalPlan mill orders plan
  pub loses : loss charge plan orders ≡ lost

-- no legal plan loses less than a bound
abbrev pub NoneLosesLess : Mill → (ℕ → ℕ) → List Order → ℕ → Type 0
NoneLosesLess mill charge orders bound =
    (plan : List ℕ) → IsLegalPlan mill orders plan → bound ≤ loss charge plan orders
