use Rattle.std.proofs.Common.{◌+◌, drop, flat_map}
use Rattle.mill_io.proofs.Blockwise.{put-behind, put-fails-behind}
use Rattle.line_text.proofs.Printed.{print-around, print-more}
use Rattle.job_words.specs.Usage.{between}
use Rattle.job_words.proofs.usage.put_names.Goals as goal

pub returns-in_err-put_name : goal.returns-in_err-put_name
returns-in_err-put_name g c =
    put-fails-behind _ _ _ _ _ _ _ _ _ _ _ _
    (flat_map (λ row. between c.args.before.now row.0.now c.args.behind.now)
    (drop (c.loop-row.row-index + 1) c.args.table.now))
    _ _ _ c.from_residual.result
    (print-around (λ row. between c.args.before.now row.0.now c.args.behind.now)
    c.args.table.now c.loop-row.row-index _ _ c.loop-row-test.true c.row-item.is)
    c.from_residual.ensures.0 c.loop-row.invariant c.in_err-put_name.ensures

pub loop-row-preserved : goal.loop-row-preserved
loop-row-preserved g c =
    put-behind _ _ _ _ _ _ _ _ _ _ _ _ _ _
    (print-more (λ row. between c.args.before.now row.0.now c.args.behind.now)
    c.args.table.now c.loop-row.row-index _ _ c.loop-row-test.true c.row-item.is)
    c.loop-row.invariant c.in_ok-put_name.ensures
