use Rattle.std.proofs.Common.{◌≡◌, length, vec_len}
use Rattle.std.specs.Prelude.{All}
use Rattle.plan_walk.specs.Taken.{IsTaken}
use Rattle.plan_walk.proofs.hand.Hand.fill.Given as goal

abbrev pub invariant-loop : goal.invariant-loop
invariant-loop l = record {
  slots : vec_len l.self.slots ≡ l.counter;
  taken : All (IsTaken (length l.draft.links)) l.self.taken.items;
}

abbrev pub invariant-loop-index : goal.invariant-loop-index
invariant-loop-index l = record {
  slots : vec_len l.self.slots ≡ length l.slabs;
  taken : All (IsTaken (length l.draft.links)) l.self.taken.items;
  end : l.index-end ≡ vec_len l.self.taken;
}
