use Rattle.std.proofs.Common.{◌≡◌, length, ltb, true}
use Rattle.std.specs.List.{list_all}
use Rattle.plan_walk.proofs.draft.Draft.to_plan.Given as goal

abbrev pub invariant-loop-place : goal.invariant-loop-place
invariant-loop-place l = record {
  count : length l.slabs.items ≡ l.place;
  below : list_all (λ s. ltb s (length l.self.links)) l.slabs.items ≡ true;
}
