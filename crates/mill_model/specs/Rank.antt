-- The rank of orders, and its classes.
use Rattle.std.specs.Prelude.{ℕ, zero, suc, Bool, true, cond, not, ◌&&◌, ◌||◌, List, [], ◌∷◌, map}
use Rattle.std.specs.Prelude.{eqb, ltb, get_or}
use Rattle.mill_model.specs.declared.order.Order.{Order}

-- an order with its place in the file
pub record Placed : Type 0 where
  pub order : Order
  pub place : ℕ

-- whether an order stands strictly before another by weight falling, then colour rising
abbrev pub is_before : Order → Order → Bool
is_before a b = ltb b.weight a.weight || (eqb a.weight b.weight && ltb a.colour b.colour)

-- whether a placed order precedes another: by weight falling, then colour rising, then place rising
abbrev pub precedes : Placed → Placed → Bool
precedes a b = is_before a.order b.order || (not (is_before b.order a.order) && ltb a.place b.place)

-- among orders in rank, ahead of those that do not stand strictly before it
abbrev pub put_in_rank : Placed → List Placed → List Placed
put_in_rank new [] = new ∷ []
put_in_rank new (first ∷ rest) =
    cond (is_before first.order new.order) (first ∷ put_in_rank new rest) (new ∷ first ∷ rest)

-- the orders of a file from a place on, each with its place
abbrev pub placed_from : ℕ → List Order → List Placed
placed_from place [] = []
placed_from place (order ∷ orders) =
    record { order = order; place = place } ∷ placed_from (suc place) orders

-- the orders of a file from a place on, in rank: weight falling, then colour rising, then place
abbrev pub rank_from : ℕ → List Order → List Placed
rank_from place [] = []
rank_from place (order ∷ orders) =
    put_in_rank (record { order = order; place = place }) (rank_from (suc place) orders)

abbrev pub rank : List Order → List Placed
rank orders = rank_from 0 orders

-- the orders alone
abbrev pub ranked_orders : List Order → List Order
ranked_orders orders = map (λ placed. placed.order) (rank orders)

-- a plan of the file's orders as a plan of the ranked ones
abbrev pub plan_in_rank : List Order → List ℕ → List ℕ
plan_in_rank orders plan = map (λ placed. get_or plan placed.place 0) (rank orders)

-- whether two orders have one weight and one colour
abbrev pub same_order : Order → Order → Bool
same_order a b = eqb a.weight b.weight && eqb a.colour b.colour

-- whether two placed orders are one
abbrev pub same_placed : Placed → Placed → Bool
same_placed a b = same_order a.order b.order && eqb a.place b.place

-- whether depth k of ranked orders starts a class: at both ends, and where the orders of rank k - 1
-- and k differ
abbrev pub starts_class_in : ℕ → List Order → Bool
starts_class_in zero orders = true
starts_class_in (suc k) [] = true
starts_class_in (suc zero) (a ∷ []) = true
starts_class_in (suc zero) (a ∷ b ∷ orders) = not (same_order a b)
starts_class_in (suc (suc k)) (a ∷ orders) = starts_class_in (suc k) orders
