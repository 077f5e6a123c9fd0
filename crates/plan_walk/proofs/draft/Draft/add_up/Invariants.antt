use Rattle.std.proofs.Common.{◌≡◌, length}
use Rattle.plan_walk.proofs.draft.Draft.add_up.Given as goal

abbrev pub invariant-loop-place : goal.invariant-loop-place
invariant-loop-place l = record {
  instance : l.self.instance.now ≡ l.initial.self.instance.now;
  count : length l.self.links ≡ length l.initial.self.links;
}

abbrev pub invariant-loop-slab : goal.invariant-loop-slab
invariant-loop-slab l = record {
  instance : l.self.instance.now ≡ l.initial.self.instance.now;
  count : length l.self.links ≡ length l.initial.self.links;
}
