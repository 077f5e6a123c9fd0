use Rattle.std.proofs.Common.{ℕ, ◌≡◌, ◌<◌, List, true}
use Rattle.list_laws.specs.Sets.{holds}
use Rattle.index_links.specs.Forest.{IsForest, label_of, nodes_of}
use Rattle.index_links.proofs.Walked.{HasPassed, labels_left}
use Rattle.piece_merge.proofs.tree_walk.child_with.Given as goal

-- the children that were passed have lesser labels
abbrev pub invariant-loop-next : goal.invariant-loop-next
invariant-loop-next l = record {
  kept : IsForest l.links;
  there : l.parent < nodes_of l.links;
  passed : List ℕ;
  rest : List ℕ;
  walked : HasPassed l.links l.parent passed rest l.next;
  lesser : (x : ℕ) → holds x passed ≡ true → label_of l.links x < l.label;
}

abbrev pub decreases-loop-next : goal.decreases-loop-next
decreases-loop-next l = labels_left l.links l.next
