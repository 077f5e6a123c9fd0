use Rattle.std.proofs.Common.{◌≡◌, ◌<◌, length}
use Rattle.std.specs.Prelude.{All}
use Rattle.slab_trials.proofs.least.plan_of.Given as goal

abbrev pub invariant-loop-k : goal.invariant-loop-k
invariant-loop-k l = record {
  count : length l.slabs.items ≡ l.k;
  below : All (λ slab. slab < l.orders) l.slabs.items;
}
