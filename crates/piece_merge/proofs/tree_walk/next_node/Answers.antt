use Rattle.std.proofs.Common.{◌∙◌, sym}
use Rattle.piece_merge.proofs.NextNode.{first-next}
use Rattle.piece_merge.proofs.tree_walk.next_node.Goals as goal

pub returns-in-Some : goal.returns-in-Some
returns-in-Some c =
    first-next c.args.links.now c.requires.tree c.args.node c.in-Some.child c.requires.node
    (sym c.first_child.ensures.is ∙ c.in-Some.is)
