use Rattle.std.proofs.Common.{◌≡◌, ℕ, ◌<◌, true}
use Rattle.list_laws.specs.Sets.{holds}
use Rattle.index_links.specs.Lists.{plan_of}
use Rattle.large_moves.proofs.slabs.free_slab.Given as goal

abbrev pub invariant-loop-s : goal.invariant-loop-s
invariant-loop-s l = (k : ℕ) → k < l.s → holds k (plan_of l.links) ≡ true
