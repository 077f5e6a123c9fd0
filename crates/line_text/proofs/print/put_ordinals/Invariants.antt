use Rattle.std.proofs.Common.{◌∷◌, flat_map, take, Ok}
use Rattle.mill_io.specs.Blockwise.{PutsText}
use Rattle.mill_io.specs.declared.stream.Failed.{Failed}
use Rattle.line_text.specs.Numbers.{ordinal}
use Rattle.line_text.proofs.print.put_ordinals.Given as goal

abbrev pub invariant-loop-thing : goal.invariant-loop-thing
invariant-loop-thing g l =
    PutsText {T = Unit {0}} {E = Failed} g.K.Sink.written g.K.Sink.held g.K.Sink.faults
    l.fn.sink l.sink l.fn.block l.block
    (flat_map (λ thing. 32 ∷ ordinal thing) (take l.thing-index l.things)) (Ok tt)
