use Rattle.std.proofs.lemmas.Result.{err_from_is_err_and}
use Rattle.answer_text.proofs.BehindInfeasible.{refused-infeasible, refused-infeasible_order}
use Rattle.answer_text.proofs.read.Reader.infeasible.Goals as goal

pub returns-in_err-order-clause-err : goal.returns-in_err-order-clause-err
returns-in_err-order-clause-err c =
    let p = err_from_is_err_and c.from_residual.result c.from_residual.ensures.1 in
    rw (p.1, p.2) (refused-infeasible c.args.self c.requires.start _ c.in_err-order.ensures.err)

pub returns-in_err-end-clause-err : goal.returns-in_err-end-clause-err
returns-in_err-end-clause-err c =
    let p = err_from_is_err_and c.from_residual-in_err-end.result
    c.from_residual-in_err-end.ensures.1 in
    rw (p.1, p.2) (refused-infeasible_order c.args.self c.requires.start c.in_ok-order.order
    c.order.new.self c.in_ok-order.ensures.ok _ c.in_err-end.ensures.err)
