use Rattle.std.proofs.Common.{ℕ, ◌≡◌, ◌<◌, List, true}
use Rattle.list_laws.specs.Sets.{holds}
use Rattle.index_links.specs.Forest.{IsForest, label_of, nodes_of}
use Rattle.index_links.specs.Nodes.{last_of}
use Rattle.index_links.proofs.Walked.{HasPassed, labels_left}
use Rattle.index_links.proofs.tree_links.TreeLinks.sibling_before.Given as goal

-- the children that were passed have lesser labels, and the last of them stands before
abbrev pub invariant-loop-next : goal.invariant-loop-next
invariant-loop-next l = record {
  kept : IsForest l.self;
  there : l.parent < nodes_of l.self;
  passed : List ℕ;
  rest : List ℕ;
  walked : HasPassed l.self l.parent passed rest l.next;
  before : l.before ≡ last_of passed;
  lesser : (x : ℕ) → holds x passed ≡ true → label_of l.self x < l.label;
}

abbrev pub decreases-loop-next : goal.decreases-loop-next
decreases-loop-next l = labels_left l.self l.next
