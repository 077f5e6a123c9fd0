-- Laws of the rank: it is the one list of a file's orders in which each precedes all behind it.
use Rattle.std.specs.Prelude.{◌≡◌, true, List, [], ◌∷◌}
use Rattle.std.specs.List.{AllByRecursion}
use Rattle.list_laws.specs.Sets.{SameTimes}
use Rattle.mill_model.specs.Rank.{Placed, precedes, placed_from, same_placed, rank}
use Rattle.mill_model.specs.declared.order.Order.{Order}

-- each precedes all behind it: by weight falling, then colour rising, then place rising
abbrev pub Rising : List Placed → Type 0
Rising [] = Unit {0}
Rising (x ∷ xs) = AllByRecursion (λ y. precedes x y ≡ true) xs × Rising xs

-- In rank each order precedes all behind it,
abbrev pub RankRises : Type 0
RankRises = (orders : List Order) → Rising (rank orders)

-- and the rank has the orders of the file, each with its place.
abbrev pub RankHasTheOrders : Type 0
RankHasTheOrders =
    (orders : List Order) → SameTimes same_placed (rank orders) (placed_from 0 orders)

-- No other list is so.
abbrev pub RankIsTheOnlyOne : Type 0
RankIsTheOnlyOne =
    (orders : List Order) (placed : List Placed) → Rising placed →
    SameTimes same_placed placed (placed_from 0 orders) → placed ≡ rank orders
