use Rattle.std.proofs.Common.{◌≡◌, ◌++◌}
use Rattle.mill_model.specs.Conserved.{joined}
use Rattle.piece_merge.specs.Merging.{records_of}
use Rattle.piece_merge.proofs.pieces.join.Given as goal

-- the records so far and those of the pieces that are left
abbrev pub invariant-loop-piece : goal.invariant-loop-piece
invariant-loop-piece l =
    l.entries.items ++ joined (records_of l.piece-iterator.rest.items)
    ≡ joined (records_of l.fn.pieces.items)
