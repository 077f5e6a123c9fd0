use Rattle.std.proofs.Common.{◌∷◌, ◌++◌, [], flat_map, take, Ok}
use Rattle.mill_io.specs.Blockwise.{PutsText}
use Rattle.mill_io.specs.declared.stream.Failed.{Failed}
use Rattle.refute_log.specs.Text.{record_line}
use Rattle.refute_log.proofs.print.put_records.Given as goal

abbrev pub invariant-loop-entry : goal.invariant-loop-entry
invariant-loop-entry g l =
    PutsText {T = Unit {0}} {E = Failed} g.K.Sink.written g.K.Sink.held g.K.Sink.faults
    l.fn.sink l.sink l.fn.block l.block
    (flat_map (λ entry. record_line entry ++ 10 ∷ []) (take l.entry-index l.entries)) (Ok tt)
