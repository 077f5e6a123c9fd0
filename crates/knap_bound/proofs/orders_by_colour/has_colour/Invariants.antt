use Rattle.std.proofs.Common.{◌≡◌, drop}
use Rattle.list_laws.specs.Sets.{holds}
use Rattle.knap_bound.proofs.orders_by_colour.has_colour.Given as goal

abbrev pub invariant-loop-c : goal.invariant-loop-c
invariant-loop-c l = holds l.colour l.colours ≡ holds l.colour (drop l.c-index l.colours)
