use Rattle.std.proofs.Common.{sym, ◌∙◌, arith}
use Rattle.std.proofs.lemmas.Result.{err_from_is_err_and}
use Rattle.instance_text.proofs.Exact.{begins_read, accepts_read, refuses_read, accepts_refused}
use Rattle.instance_text.proofs.Exact.{refuses_refused}
use Rattle.instance_text.proofs.read.read_instance.Goals as goal

pub returns-in_err-numbers-clause-accepts : goal.returns-in_err-numbers-clause-accepts
returns-in_err-numbers-clause-accepts c problem end begins limit =
    let p = err_from_is_err_and c.from_residual.result c.from_residual.ensures.1 in
    rw (p.1, p.2) (accepts_refused c.args.bytes.now _ c.in_err-numbers.ensures.refused problem end
    begins)

pub returns-in_err-numbers-clause-refuses : goal.returns-in_err-numbers-clause-refuses
returns-in_err-numbers-clause-refuses c why refused =
    let p = err_from_is_err_and c.from_residual.result c.from_residual.ensures.1 in
    rw (p.1, p.2) (refuses_refused c.args.bytes.now _ c.in_err-numbers.ensures.refused why refused)

pub returns-clause-found : goal.returns-clause-found
returns-clause-found c =
    begins_read c.args.bytes.now _ _ _ c.in_ok-numbers.end c.new.result
    c.in_ok-numbers.ensures.found (omega (arith, c.requires.low, c.new.ensures.p))
    (omega (arith, c.requires.high, c.new.ensures.p)) c.new.ensures.sizes
    c.new.ensures.stated c.new.ensures.orders

pub returns-clause-accepts : goal.returns-clause-accepts
returns-clause-accepts c problem end begins limit =
    accepts_read c.args.bytes.now c.new.result c.in_ok-numbers.end (returns-clause-found c)
    problem end begins (limit ∙ sym c.new.ensures.p)

pub returns-clause-refuses : goal.returns-clause-refuses
returns-clause-refuses c =
    refuses_read c.args.bytes.now c.new.result c.in_ok-numbers.end (returns-clause-found c)
