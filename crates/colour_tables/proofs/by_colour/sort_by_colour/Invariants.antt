use Rattle.std.proofs.Common.{◌≡◌, take}
use Rattle.colour_tables.proofs.SortedByColour.{coloured_from}
use Rattle.colour_tables.proofs.by_colour.sort_by_colour.Given as goal

abbrev pub invariant-loop-place : goal.invariant-loop-place
invariant-loop-place l = l.sorted.items ≡ take l.place (coloured_from 0 l.rest)
