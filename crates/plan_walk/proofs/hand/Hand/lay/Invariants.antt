use Rattle.std.proofs.Common.{◌≡◌, length}
use Rattle.plan_walk.proofs.hand.Hand.lay.Given as goal

abbrev pub invariant-loop-taken : goal.invariant-loop-taken
invariant-loop-taken l = record {
  count : length l.draft.links ≡ length l.initial.draft.links;
  instance : l.draft.instance.now ≡ l.initial.draft.instance.now;
}
