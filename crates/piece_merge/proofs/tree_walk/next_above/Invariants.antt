use Rattle.piece_merge.specs.Paths.{IsRooted}
use Rattle.piece_merge.proofs.NextNode.{HasPassedBelow}
use Rattle.piece_merge.proofs.tree_walk.next_above.Given as goal

abbrev pub invariant-loop-parent : goal.invariant-loop-parent
invariant-loop-parent l = record {
  tree : IsRooted l.links;
  passed : HasPassedBelow l.links tree l.node l.at;
}

abbrev pub decreases-loop-parent : goal.decreases-loop-parent
decreases-loop-parent l = l.at
