-- Ranked orders, as clauses see them.
use Rattle.std.specs.Prelude.{ℕ, ◌≡◌, true, List, map, slice_index}
use Rattle.mill_model.specs.Slab.{Mill}
use Rattle.mill_model.specs.Instance.{Problem, IsInstance, mill_of}
use Rattle.mill_model.specs.Plan.{numbers_each, legal_plan, loss}
use Rattle.mill_model.specs.Rank.{Placed, rank, ranked_orders, plan_in_rank}
use Rattle.mill_model.specs.declared.order.Order.{Order}

-- orders with their places in the file, in rank, and the mill that they are for
pub record RankedOrders : Type 0 where
  pub placed : List Placed
  pub mill : Mill

-- the orders alone
abbrev pub orders_of : RankedOrders → List Order
orders_of ranked = map (λ placed. placed.order) ranked.placed

-- their places in the file
abbrev pub homes_of : RankedOrders → List ℕ
homes_of ranked = map (λ placed. placed.place) ranked.placed

-- the numbers that a plan of the file's orders gives them, in rank
abbrev pub read_in_rank : RankedOrders → List ℕ → List ℕ
read_in_rank ranked plan = map (λ placed. slice_index plan placed.place) ranked.placed

-- the orders of an instance in rank, with its mill
pub record IsRankOf (problem : Problem) (ranked : RankedOrders) : Type 0 where
  pub placed : ranked.placed ≡ rank problem.orders
  pub mill : ranked.mill ≡ mill_of problem

-- they are those of some instance
pub record IsRanked (ranked : RankedOrders) : Type 0 where
  pub problem : Problem
  pub kept : IsInstance problem
  pub is : IsRankOf problem ranked

-- a plan of a file's orders that gives each of them the number that a path gives it in rank, and so
-- is legal where the path is, and loses what the path loses
pub record IsPlanOf (orders : List Order) (path plan : List ℕ) : Type 0 where
  pub each : numbers_each plan orders ≡ true
  pub in_rank : plan_in_rank orders plan ≡ path
  pub legal : (mill : Mill) → legal_plan mill plan orders ≡ legal_plan mill path
      (ranked_orders orders)
  pub loses : (charge : ℕ → ℕ) → loss charge plan orders ≡ loss charge path (ranked_orders orders)
