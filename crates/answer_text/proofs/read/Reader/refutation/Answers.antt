use Rattle.std.proofs.Common.{◌+◌, ◌∙◌, ap, refl, subst, inr, Err}
use Rattle.std.proofs.lemmas.Result.{err_from_is_err_and}
use Rattle.refute_log.specs.Text.{IsLogText}
use Rattle.refute_log.specs.Judged.{Says}
use Rattle.answer_text.specs.Reading.{Reading}
use Rattle.answer_text.proofs.InLog.{says-err}
use Rattle.answer_text.proofs.read.Reader.refutation.Goals as goal

pub returns-in_err-log-clause-err : goal.returns-in_err-log-clause-err
returns-in_err-log-clause-err c =
    let p = err_from_is_err_and c.from_residual-in_err-log.result
    c.from_residual-in_err-log.ensures.1 in
    let cause = c.in_err-log.field-0.0 in
    let clauses = c.in_err-log.ensures in
    let fields = c.self.inside in
    let says : Says fields.orders (fields.read + 1) fields.lines (Err cause) =
    says-err fields.orders (fields.read + 1) fields.lines (Err cause) clauses.bad_line
    clauses.not_rising clauses.count_differs cause refl in
    rw (p.1, p.2) (inr (record {
      no_end = c.if-comes_to_end.ensures.no refl;
      cause = cause;
      says = subst (λ (r : Reading). Says r.orders (r.read + 1) r.rest (Err cause))
          c.self.view_is says;
      is = refl;
    }))

pub returns-in_ok-log-clause-ok : goal.returns-in_ok-log-clause-ok
returns-in_ok-log-clause-ok c =
    subst (IsLogText c.in_ok-log.log) (ap (λ (r : Reading). r.rest) c.self.view_is)
    ((c.in_ok-log.ensures.log c.in_ok-log.log).only refl).1

pub returns-in_ok-log-clause-orders : goal.returns-in_ok-log-clause-orders
returns-in_ok-log-clause-orders c =
    ((c.in_ok-log.ensures.log c.in_ok-log.log).only refl).0
    ∙ ap (λ (r : Reading). r.orders) c.self.view_is
