use Rattle.std.proofs.Common.{◌≡◌, length}
use Rattle.plan_walk.proofs.walk.Walker.close_pairs.Given as goal

abbrev pub invariant-loop : goal.invariant-loop
invariant-loop l = record {
  instance : l.self.draft.instance.now ≡ l.initial.self.draft.instance.now;
  count : length l.self.draft.links ≡ length l.initial.self.draft.links;
  hand : l.self.hand ≡ l.initial.self.hand;
}
