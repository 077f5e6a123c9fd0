use Rattle.std.proofs.Common.{◌∷◌, flat_map, take, Ok}
use Rattle.mill_io.specs.Blockwise.{PutsText}
use Rattle.mill_io.specs.declared.stream.Failed.{Failed}
use Rattle.std.specs.Fmt.{signed_decimal}
use Rattle.line_text.proofs.print.put_signed_numbers.Given as goal

abbrev pub invariant-loop-number : goal.invariant-loop-number
invariant-loop-number g l =
    PutsText {T = Unit {0}} {E = Failed} g.K.Sink.written g.K.Sink.held g.K.Sink.faults
    l.fn.sink l.sink l.fn.block l.block
    (flat_map (λ number. 32 ∷ signed_decimal number) (take l.number-index l.numbers)) (Ok tt)
