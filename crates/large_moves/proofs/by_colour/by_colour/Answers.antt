use Rattle.std.proofs.Common.{map, subst, ◌∙◌, arith}
use Rattle.std.specs.List.Sorted.{IsPermutation}
use Rattle.std.proofs.lemmas.List.{take_all}
use Rattle.std.proofs.lemmas.List.Sorted.{IsPermutation-map}
use Rattle.large_moves.specs.Coloured.{placed_of}
use Rattle.large_moves.proofs.Homes.{placed-next}
use Rattle.large_moves.proofs.Grouped.{sorted-grouped}
use Rattle.large_moves.proofs.by_colour.by_colour.Goals as goal

pub loop-rank-preserved : goal.loop-rank-preserved
loop-rank-preserved c = rw c.in_ok-push.ensures.items
    (placed-next c.args.ranked.now.placed c.loop-rank.coloured.items c.loop-rank.rank
    c.order.result c.home.result
    (omega (arith, c.loop-rank-test.true, c.len-rank-end.ensures.is))
    c.order.ensures.is c.home.ensures.is c.loop-rank.invariant)

pub returns-clause-sorted : goal.returns-clause-sorted
returns-clause-sorted c = record {
  same = subst (λ placed. IsPermutation placed (map placed_of c.sort_by_colour.new.coloured.items))
      (c.loop-rank.invariant ∙ take_all c.loop-rank.rank c.args.ranked.now.placed
      (omega (arith, c.loop-rank-test.false, c.len-rank-end.ensures.is)))
      (IsPermutation-map placed_of c.loop-rank.coloured.items
      c.sort_by_colour.new.coloured.items c.sort_by_colour.ensures.permutation);
  together = sorted-grouped c.sort_by_colour.new.coloured.items c.sort_by_colour.ensures.sorted;
}
