use Rattle.std.proofs.Common.{◌≡◌, take}
use Rattle.least_slacks.proofs.OrdersByColour.{items_from}
use Rattle.least_slacks.proofs.later_orders.by_colour.Given as goal

abbrev pub invariant-loop-place : goal.invariant-loop-place
invariant-loop-place l = l.items.items ≡ take l.place (items_from 0 l.rest)
