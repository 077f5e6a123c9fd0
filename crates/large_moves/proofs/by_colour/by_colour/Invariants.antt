use Rattle.std.proofs.Common.{◌≡◌, take, map}
use Rattle.large_moves.specs.Coloured.{placed_of}
use Rattle.large_moves.proofs.by_colour.by_colour.Given as goal

abbrev pub invariant-loop-rank : goal.invariant-loop-rank
invariant-loop-rank l = map placed_of l.coloured.items ≡ take l.rank l.ranked.placed
