use Rattle.std.proofs.lemmas.Result.{err_from_is_err_and}
use Rattle.answer_text.proofs.BehindFeasible.{refused-feasible, refused-feasible_loss}
use Rattle.answer_text.proofs.BehindFeasible.{refused-feasible_plan, refused-feasible_spent}
use Rattle.answer_text.proofs.read.Reader.feasible.Goals as goal

pub returns-in_err-loss-clause-err : goal.returns-in_err-loss-clause-err
returns-in_err-loss-clause-err c =
    let p = err_from_is_err_and c.from_residual.result c.from_residual.ensures.1 in
    rw (p.1, p.2) (refused-feasible c.args.self c.requires.start _ c.in_err-loss.ensures.err)

pub returns-in_err-plan-clause-err : goal.returns-in_err-plan-clause-err
returns-in_err-plan-clause-err c =
    let p = err_from_is_err_and c.from_residual-in_err-plan.result
    c.from_residual-in_err-plan.ensures.1 in
    rw (p.1, p.2) (refused-feasible_loss c.args.self c.requires.start c.in_ok-loss.loss
    c.loss.new.self c.in_ok-loss.ensures.ok _ c.in_err-plan.ensures.err)

pub returns-in_err-spent-clause-err : goal.returns-in_err-spent-clause-err
returns-in_err-spent-clause-err c =
    let p = err_from_is_err_and c.from_residual-in_err-spent.result
    c.from_residual-in_err-spent.ensures.1 in
    rw (p.1, p.2) (refused-feasible_plan c.args.self c.requires.start c.in_ok-loss.loss
    c.loss.new.self c.in_ok-loss.ensures.ok c.in_ok-plan.plan c.plan.new.self
    c.in_ok-plan.ensures.ok _ c.in_err-spent.ensures.err)

pub returns-in_err-end-clause-err : goal.returns-in_err-end-clause-err
returns-in_err-end-clause-err c =
    let p = err_from_is_err_and c.from_residual-in_err-end.result
    c.from_residual-in_err-end.ensures.1 in
    rw (p.1, p.2) (refused-feasible_spent c.args.self c.requires.start c.in_ok-loss.loss
    c.loss.new.self c.in_ok-loss.ensures.ok c.in_ok-plan.plan c.plan.new.self
    c.in_ok-plan.ensures.ok c.in_ok-spent.spent c.spent.new.self c.in_ok-spent.ensures.ok _
    c.in_err-end.ensures.err)
