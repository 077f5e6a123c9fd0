use Rattle.std.proofs.Common.{take}
use Rattle.split_tree.specs.Node.{AreGroups}
use Rattle.split_tree.proofs.node.NodeState.of.Given as goal

abbrev pub invariant-loop-rank : goal.invariant-loop-rank
invariant-loop-rank l =
    AreGroups (record { ranked = l.ranked; path = take l.rank l.path }) l.groups.items
