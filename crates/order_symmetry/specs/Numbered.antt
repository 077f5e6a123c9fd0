-- Orders with numbers, and how they are put in rank.
use Rattle.std.specs.Prelude.{Bool, not, ◌&&◌, ◌||◌, ltb}
use Rattle.mill_model.specs.Rank.{Placed, is_before}
use Rattle.order_symmetry.specs.declared.numbered.Numbered.{Numbered}

-- an order with its number as its place
abbrev pub placed_of : Numbered → Placed
placed_of numbered = record { order = numbered.order; place = numbered.number }

-- whether one stands strictly before another: in rank, and of equal orders by number
abbrev pub stands_before : Numbered → Numbered → Bool
stands_before a b =
    is_before a.order b.order || (not (is_before b.order a.order) && ltb a.number b.number)
