use Rattle.std.proofs.Common.{codes}
use Rattle.mill_io.proofs.Blockwise.{put-behind, put-fails}
use Rattle.answer_text.proofs.Printed.{answer-and-end}
use Rattle.answer_text.proofs.print.put_answer.Goals as goal

pub returns-in_err-put_lines-clause-puts : goal.returns-in_err-put_lines-clause-puts
returns-in_err-put_lines-clause-puts g c =
    put-fails _ _ _ _ _ _ _ _ _ (codes "end\n") _ _ c.from_residual.result
    (answer-and-end c.args.answer.now) c.from_residual.ensures.0 c.in_err-put_lines.ensures.puts

pub returns-clause-puts : goal.returns-clause-puts
returns-clause-puts g c =
    put-behind _ _ _ _ _ _ _ _ _ _ _ _ _ c.put.result (answer-and-end c.args.answer.now)
    c.in_ok-put_lines.ensures.puts c.put.ensures
