use Rattle.std.proofs.Common.{◌≡◌, ◌++◌, ℕ, List, length, Ok}
use Rattle.mill_io.specs.Blockwise.{PutsText}
use Rattle.mill_io.specs.declared.stream.Failed.{Failed}
use Rattle.mill_io.proofs.block.Block.put.Given as goal

abbrev pub invariant-loop-left : goal.invariant-loop-left
invariant-loop-left g l =
    (front : List ℕ) × (l.piece ≡ front ++ l.left)
    × PutsText {T = Unit {0}} {E = Failed} g.K.Sink.written g.K.Sink.held g.K.Sink.faults
    l.fn.sink l.sink l.fn.self l.self front (Ok tt)

abbrev pub decreases-loop-left : goal.decreases-loop-left
decreases-loop-left g l = length l.left
