use Rattle.std.proofs.Common.{◌+◌, ◌∷◌, ◌++◌, [], ap, codes, sym}
use Rattle.std.specs.Fmt.{decimal}
use Rattle.line_text.specs.Lines.{text_of}
use Rattle.mill_io.proofs.Blockwise.{put-behind, put-fails, put-same}
use Rattle.answer_text.specs.Text.{lines_of_log}
use Rattle.answer_text.proofs.Printed.{feasible-parts, optimal-parts}
use Rattle.answer_text.proofs.print.put_lines.Goals as goal

pub returns-in_err-put_loss_and_plan-in-Optimal-clause-puts :
    goal.returns-in_err-put_loss_and_plan-in-Optimal-clause-puts
returns-in_err-put_loss_and_plan-in-Optimal-clause-puts g c =
    rw c.in-Optimal.is (put-fails _ _ _ _ _ _ _ _ _
    (text_of (lines_of_log c.in-Optimal.refutation)) _ _ c.from_residual.result
    (optimal-parts c.in-Optimal.loss c.in-Optimal.plan c.in-Optimal.refutation)
    c.from_residual.ensures.0 c.in_err-put_loss_and_plan-in-Optimal.ensures)

pub returns-in_ok-put_loss_and_plan-in-Optimal-clause-puts :
    goal.returns-in_ok-put_loss_and_plan-in-Optimal-clause-puts
returns-in_ok-put_loss_and_plan-in-Optimal-clause-puts g c =
    rw c.in-Optimal.is (put-behind _ _ _ _ _ _ _ _ _ _ _ _ _ c.put_refutation.result
    (optimal-parts c.in-Optimal.loss c.in-Optimal.plan c.in-Optimal.refutation)
    c.in_ok-put_loss_and_plan-in-Optimal.ensures c.put_refutation.ensures.puts)

pub returns-in_err-put_loss_and_plan-in-Feasible-clause-puts :
    goal.returns-in_err-put_loss_and_plan-in-Feasible-clause-puts
returns-in_err-put_loss_and_plan-in-Feasible-clause-puts g c =
    rw c.in-Feasible.is (put-fails _ _ _ _ _ _ _ _ _
    (codes "spent " ++ (decimal c.in-Feasible.spent ++ 10 ∷ [])) _ _
    c.from_residual-in_err-put_loss_and_plan-in-Feasible.result
    (feasible-parts c.in-Feasible.loss c.in-Feasible.plan c.in-Feasible.spent)
    c.from_residual-in_err-put_loss_and_plan-in-Feasible.ensures.0
    c.in_err-put_loss_and_plan-in-Feasible.ensures)

pub returns-in_ok-put_loss_and_plan-in-Feasible-clause-puts :
    goal.returns-in_ok-put_loss_and_plan-in-Feasible-clause-puts
returns-in_ok-put_loss_and_plan-in-Feasible-clause-puts g c =
    rw c.in-Feasible.is (put-behind _ _ _ _ _ _ _ _ _ _ _ _ _ c.put_named_line.result
    (feasible-parts c.in-Feasible.loss c.in-Feasible.plan c.in-Feasible.spent)
    c.in_ok-put_loss_and_plan-in-Feasible.ensures c.put_named_line.ensures)

pub returns-in-Infeasible-clause-puts : goal.returns-in-Infeasible-clause-puts
returns-in-Infeasible-clause-puts g c =
    rw c.in-Infeasible.is (put-same _ _ _ _ _ _ _ _ _ c.put_named_line-in-Infeasible.result
    (ap (λ n. codes "infeasible\norder " ++ (decimal (n + 1) ++ 10 ∷ [])) (sym c.from.ensures))
    c.put_named_line-in-Infeasible.ensures)
