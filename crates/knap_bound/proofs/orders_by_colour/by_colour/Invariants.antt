use Rattle.std.proofs.Common.{◌≡◌, take}
use Rattle.knap_bound.proofs.ItemsSorted.{items_from}
use Rattle.knap_bound.proofs.orders_by_colour.by_colour.Given as goal

abbrev pub invariant-loop-place : goal.invariant-loop-place
invariant-loop-place l = l.items.items ≡ take l.place (items_from 0 l.rest)
