use Rattle.std.proofs.Common.{◌≡◌, ◌≤◌, ◌*◌}
use Rattle.split_tree.proofs.Losses.{charged_below}
use Rattle.split_tree.proofs.node.NodeState.groups_loss.Given as goal

abbrev pub invariant-loop-group : goal.invariant-loop-group
invariant-loop-group l = record {
  sum : l.loss ≡ charged_below l.charges.list l.self l.group-index;
  most : l.loss ≤ 100000000 * l.group-index;
}
