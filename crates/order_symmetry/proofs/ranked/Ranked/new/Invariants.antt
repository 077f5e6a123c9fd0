use Rattle.std.proofs.Common.{◌≡◌, map, take}
use Rattle.order_symmetry.specs.Numbered.{placed_of}
use Rattle.mill_model.specs.Rank.{placed_from}
use Rattle.order_symmetry.proofs.ranked.Ranked.new.Given as goal

abbrev pub invariant-loop-home : goal.invariant-loop-home
invariant-loop-home l = map placed_of l.placed.items ≡ placed_from 0 (take l.home l.orders)
