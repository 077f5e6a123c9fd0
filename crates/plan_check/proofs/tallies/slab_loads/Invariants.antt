use Rattle.plan_check.proofs.Slabs.{AreLoads}
use Rattle.plan_check.proofs.tallies.slab_loads.Given as goal

abbrev pub invariant-loop-place : goal.invariant-loop-place
invariant-loop-place l = AreLoads l.slabs l.orders l.place l.loads.items
