use Rattle.std.proofs.Common.{◌≡◌, drop, length}
use Rattle.index_links.specs.Lists.{AreSlabLists, plan_of}
use Rattle.large_moves.specs.Moves.{put_at}
use Rattle.large_moves.proofs.pair.lay.Given as goal

abbrev pub invariant-loop-i : goal.invariant-loop-i
invariant-loop-i l = record {
  rest : put_at (drop l.i l.places) (drop l.i l.marks) l.a l.c (plan_of l.links)
      ≡ put_at l.places l.marks l.a l.c (plan_of l.fn.links);
  count : length l.links ≡ length l.fn.links;
  kept : AreSlabLists l.links;
}
