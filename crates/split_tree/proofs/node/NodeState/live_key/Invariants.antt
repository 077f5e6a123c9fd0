use Rattle.std.proofs.Common.{◌≡◌}
use Rattle.split_tree.proofs.LiveGroups.{keys_below}
use Rattle.split_tree.proofs.node.NodeState.live_key.Given as goal

abbrev pub invariant-loop-slab : goal.invariant-loop-slab
invariant-loop-slab l = l.groups.items ≡ keys_below l.self l.coming.items l.slab-index
