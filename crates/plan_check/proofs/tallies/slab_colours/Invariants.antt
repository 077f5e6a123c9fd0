use Rattle.std.proofs.Common.{◌≡◌, take}
use Rattle.plan_check.proofs.Pairs.{pairs_of}
use Rattle.plan_check.proofs.tallies.slab_colours.Given as goal

abbrev pub invariant-loop-place : goal.invariant-loop-place
invariant-loop-place l = l.pairs.items ≡ pairs_of (take l.place l.slabs) l.orders
