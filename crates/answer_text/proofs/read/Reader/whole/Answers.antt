use Rattle.std.proofs.Common.{◌≢◌, codes, rules}
use Rattle.std.proofs.lemmas.Result.{err_from_is_err_and}
use Rattle.answer_text.proofs.KindLine.{refused-nothing, refused-other, err-behind}
use Rattle.answer_text.proofs.read.Reader.whole.Goals as goal

pub returns-in_err-line-clause-err : goal.returns-in_err-line-clause-err
returns-in_err-line-clause-err c =
    let p = err_from_is_err_and c.from_residual.result c.from_residual.ensures.1 in
    rw (p.1, p.2) (refused-nothing c.args.self _ c.requires.start c.in_err-line.ensures.none
    c.in_err-line.ensures.err)

pub returns-else-eq-3-clause-err : goal.returns-else-eq-3-clause-err
returns-else-eq-3-clause-err c =
    let line = c.in_ok-line.line.now in
    let not_optimal : line ≢ codes "optimal" = search rules in
    let not_feasible : line ≢ codes "feasible" = search rules in
    let not_infeasible : line ≢ codes "infeasible" = search rules in
    refused-other c.args.self c.bad_line.result c.requires.start line c.next_line.new.self
    c.in_ok-line.ensures.ok not_optimal not_feasible not_infeasible c.bad_line.ensures

pub returns-then-eq-3-clause-err : goal.returns-then-eq-3-clause-err
returns-then-eq-3-clause-err c =
    err-behind c.args.self c.next_line.new.self c.in_ok-line.line.now (codes "infeasible")
    c.in_ok-line.ensures.ok (search rules) c.infeasible.result c.infeasible.ensures.err
