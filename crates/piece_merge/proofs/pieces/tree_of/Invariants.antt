use Rattle.piece_merge.proofs.Gathering.{HasGathered}
use Rattle.piece_merge.proofs.pieces.tree_of.Given as goal

abbrev pub invariant-loop-entry : goal.invariant-loop-entry
invariant-loop-entry l =
    HasGathered l.fn.entries.items l.entry-iterator.rest.items l.tree.links l.tree.records.items
