use Rattle.std.proofs.Common.{◌≡◌, take}
use Rattle.large_moves.specs.Coloured.{plan_of}
use Rattle.large_moves.proofs.by_colour.read_plan.Given as goal

abbrev pub invariant-loop-c : goal.invariant-loop-c
invariant-loop-c l = l.plan.items ≡ plan_of (take l.c-index l.coloured) l.slabs
