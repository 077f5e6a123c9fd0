use Rattle.std.proofs.Common.{◌≡◌}
use Rattle.split_tree.proofs.Children.{children_below}
use Rattle.split_tree.proofs.node.NodeState.children.Given as goal

abbrev pub invariant-loop-group : goal.invariant-loop-group
invariant-loop-group l = l.paths.items ≡ children_below l.self l.group
