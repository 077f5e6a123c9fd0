use Rattle.std.proofs.Common.{◌≡◌, length}
use Rattle.plan_walk.proofs.relay.lay.Given as goal

abbrev pub invariant-loop-index : goal.invariant-loop-index
invariant-loop-index l = record {
  count : length l.draft.links ≡ length l.initial.draft.links;
  instance : l.draft.instance.now ≡ l.initial.draft.instance.now;
}
