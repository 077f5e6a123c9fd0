use Rattle.std.proofs.Common.{codes, refl}
use Rattle.std.specs.Prelude.{decimal}
use Rattle.mill_io.proofs.Blockwise.{put-behind, put-fails}
use Rattle.reply_text.proofs.Parts.{spent-parts}
use Rattle.reply_text.proofs.summary.Ending.put_lines.Goals as goal

pub returns-in_err-put_named-in-Optimal : goal.returns-in_err-put_named-in-Optimal
returns-in_err-put_named-in-Optimal g c =
    rw c.in-Optimal.is (put-fails _ _ _ _ _ _ _ _ _ (codes "\nend\n") _ _
    c.from_residual.result refl c.from_residual.ensures.0 c.in_err-put_named-in-Optimal.ensures)

pub returns-in_ok-put_named-in-Optimal : goal.returns-in_ok-put_named-in-Optimal
returns-in_ok-put_named-in-Optimal g c =
    rw c.in-Optimal.is (put-behind _ _ _ _ _ _ _ _ _ _ _ _ _ c.put.result refl
    c.in_ok-put_named-in-Optimal.ensures c.put.ensures)

pub returns-in_err-put_two_named-in-Feasible : goal.returns-in_err-put_two_named-in-Feasible
returns-in_err-put_two_named-in-Feasible g c =
    rw c.in-Feasible.is (put-fails _ _ _ _ _ _ _ _ _ (codes "\nend\n") _ _
    c.from_residual-in_err-put_two_named-in-Feasible.result
    (spent-parts (decimal c.in-Feasible.loss) (decimal c.in-Feasible.spent))
    c.from_residual-in_err-put_two_named-in-Feasible.ensures.0
    c.in_err-put_two_named-in-Feasible.ensures)

pub returns-in_ok-put_two_named-in-Feasible : goal.returns-in_ok-put_two_named-in-Feasible
returns-in_ok-put_two_named-in-Feasible g c =
    rw c.in-Feasible.is (put-behind _ _ _ _ _ _ _ _ _ _ _ _ _ c.put-in-Feasible.result
    (spent-parts (decimal c.in-Feasible.loss) (decimal c.in-Feasible.spent))
    c.in_ok-put_two_named-in-Feasible.ensures c.put-in-Feasible.ensures)
