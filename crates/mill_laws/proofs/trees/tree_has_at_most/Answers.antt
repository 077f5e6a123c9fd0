use Rattle.mill_laws.proofs.TreeLaws.{tree-has-at-most}
use Rattle.mill_laws.proofs.trees.tree_has_at_most.Goals as goal

pub returns : goal.returns
returns c = tree-has-at-most
