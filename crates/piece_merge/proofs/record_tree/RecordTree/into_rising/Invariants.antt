use Rattle.piece_merge.proofs.Preorder.{IsOnTheWalk, nodes_left}
use Rattle.piece_merge.proofs.record_tree.RecordTree.into_rising.Given as goal

abbrev pub invariant-loop-next : goal.invariant-loop-next
invariant-loop-next l =
    IsOnTheWalk l.self.links l.fn.self.records.items l.self.records.items l.entries.items l.next

abbrev pub decreases-loop-next : goal.decreases-loop-next
decreases-loop-next l = nodes_left l.self.links l.next
