use Rattle.std.proofs.lemmas.Result.{err_from_is_err_and}
use Rattle.answer_text.proofs.BehindOptimal.{refused-optimal, refused-optimal_loss}
use Rattle.answer_text.proofs.BehindOptimal.{refused-refutation}
use Rattle.answer_text.proofs.read.Reader.optimal.Goals as goal

pub returns-in_err-loss-clause-err : goal.returns-in_err-loss-clause-err
returns-in_err-loss-clause-err c =
    let p = err_from_is_err_and c.from_residual.result c.from_residual.ensures.1 in
    rw (p.1, p.2) (refused-optimal c.args.self c.requires.start _ c.in_err-loss.ensures.err)

pub returns-in_err-plan-clause-err : goal.returns-in_err-plan-clause-err
returns-in_err-plan-clause-err c =
    let p = err_from_is_err_and c.from_residual-in_err-plan.result
    c.from_residual-in_err-plan.ensures.1 in
    rw (p.1, p.2) (refused-optimal_loss c.args.self c.requires.start c.in_ok-loss.loss
    c.loss.new.self c.in_ok-loss.ensures.ok _ c.in_err-plan.ensures.err)

pub returns-in_err-refutation-clause-err : goal.returns-in_err-refutation-clause-err
returns-in_err-refutation-clause-err c =
    let p = err_from_is_err_and c.from_residual-in_err-refutation.result
    c.from_residual-in_err-refutation.ensures.1 in
    rw (p.1, p.2) (refused-refutation c.args.self c.requires.start c.in_ok-loss.loss
    c.loss.new.self c.in_ok-loss.ensures.ok c.in_ok-plan.plan c.plan.new.self
    c.in_ok-plan.ensures.ok _ c.in_err-refutation.ensures.err)
