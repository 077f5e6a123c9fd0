use Rattle.std.proofs.Common.{length}
use Rattle.plan_check.proofs.Counts.{AreCounts}
use Rattle.plan_check.proofs.tallies.colour_counts.Given as goal

abbrev pub invariant-loop-slab : goal.invariant-loop-slab
invariant-loop-slab l = AreCounts l.slab-items (length l.orders) l.slab-index l.counts.items
