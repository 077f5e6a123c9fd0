use Rattle.std.proofs.Common.{◌≡◌, length, vec_len}
use Rattle.plan_walk.proofs.walk.Walker.sweep_pairs.Given as goal

abbrev pub invariant-loop-high : goal.invariant-loop-high
invariant-loop-high l = record {
  instance : l.self.draft.instance.now ≡ l.initial.self.draft.instance.now;
  count : length l.self.draft.links ≡ length l.initial.self.draft.links;
  hand : l.self.hand ≡ l.initial.self.hand;
  end : l.high-end ≡ vec_len l.self.slabs;
}

abbrev pub invariant-loop-low : goal.invariant-loop-low
invariant-loop-low l = record {
  instance : l.self.draft.instance.now ≡ l.initial.self.draft.instance.now;
  count : length l.self.draft.links ≡ length l.initial.self.draft.links;
  hand : l.self.hand ≡ l.initial.self.hand;
  end : l.high-end ≡ vec_len l.self.slabs;
}
