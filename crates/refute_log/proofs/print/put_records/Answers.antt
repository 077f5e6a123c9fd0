use Rattle.std.proofs.Common.{◌+◌, ◌∷◌, ◌++◌, [], drop, flat_map}
use Rattle.mill_io.proofs.Blockwise.{put-behind, put-fails-behind}
use Rattle.line_text.proofs.Printed.{print-around, print-more}
use Rattle.refute_log.specs.Text.{record_line}
use Rattle.refute_log.proofs.print.put_records.Goals as goal

pub returns-in_err-put_record : goal.returns-in_err-put_record
returns-in_err-put_record g c =
    put-fails-behind _ _ _ _ _ _ _ _ _ _ _ _
    (flat_map (λ e. record_line e ++ 10 ∷ []) (drop (c.loop-entry.entry-index + 1)
    c.args.entries.now))
    _ _ _ c.from_residual.result
    (print-around (λ e. record_line e ++ 10 ∷ []) c.args.entries.now c.loop-entry.entry-index _ _
    c.loop-entry-test.true c.entry-item.is)
    c.from_residual.ensures.0 c.loop-entry.invariant c.in_err-put_record.ensures

pub loop-entry-preserved : goal.loop-entry-preserved
loop-entry-preserved g c =
    put-behind _ _ _ _ _ _ _ _ _ _ _ _ _ _
    (print-more (λ e. record_line e ++ 10 ∷ []) c.args.entries.now c.loop-entry.entry-index _ _
    c.loop-entry-test.true c.entry-item.is)
    c.loop-entry.invariant c.in_ok-put_record.ensures
