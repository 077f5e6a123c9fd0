use Rattle.std.proofs.Common.{flat_map, take, Ok}
use Rattle.mill_io.specs.Blockwise.{PutsText}
use Rattle.mill_io.specs.declared.stream.Failed.{Failed}
use Rattle.job_words.specs.Usage.{between}
use Rattle.job_words.proofs.usage.put_names.Given as goal

abbrev pub invariant-loop-row : goal.invariant-loop-row
invariant-loop-row g l =
    PutsText {T = Unit {0}} {E = Failed} g.K.Sink.written g.K.Sink.held g.K.Sink.faults
    l.fn.sink l.sink l.fn.block l.block
    (flat_map (λ row. between l.before row.0.now l.behind) (take l.row-index l.table)) (Ok tt)
