-- The verdict by the rules is one of the instance, and a log has one verdict.
use Rattle.std.proofs.Common.{◌≡◌, ◌∙◌, length, sym}
use Rattle.mill_model.specs.Instance.{mill_of}
use Rattle.mill_model.specs.Log.{task_of}
use Rattle.mill_model.specs.Charges.{charge_of}
use Rattle.mill_laws.proofs.LogLaws.{refuted-loss-bounds}
use Rattle.log_checker.specs.ByRules.{task_by}
use Rattle.log_checker.specs.declared.verdict.LogVerdict.TheVariants as verdicts
use Rattle.log_checker.proofs.Unique.{verdict-given, verdict-only}
use Rattle.log_checker.proofs.check.check_log.Goals as goal

pub check_by-requires-clause-fits : goal.check_by-requires-clause-fits
check_by-requires-clause-fits c =
    let n : length c.in_ok-rules.rules.ranked.items ≡ c.args.log.now.orders =
    c.in_ok-rules.ensures.count ∙ sym c.requires.orders in
    rw (n, c.entries.ensures.is) c.entries.ensures.kept.fit

pub returns-clause-refutes : goal.returns-clause-refutes
returns-clause-refutes c = (
  verdict-given (task_by c.in_ok-rules.rules)
      (task_of c.args.instance.now (charge_of c.args.charges.now)) c.args.loss c.entries.result.now
      c.args.log.now.entries c.in_ok-rules.ensures.is c.entries.ensures.is c.in_ok-verdict.verdict
      c.in_ok-verdict.ensures.verdict verdicts.Refutes,
  verdict-only (task_by c.in_ok-rules.rules)
      (task_of c.args.instance.now (charge_of c.args.charges.now)) c.args.loss c.entries.result.now
      c.args.log.now.entries c.in_ok-rules.ensures.is c.entries.ensures.is c.in_ok-verdict.verdict
      c.in_ok-verdict.ensures.verdict verdicts.Refutes,
)

pub returns-clause-missing : goal.returns-clause-missing
returns-clause-missing c path = (
  verdict-given (task_by c.in_ok-rules.rules)
      (task_of c.args.instance.now (charge_of c.args.charges.now)) c.args.loss c.entries.result.now
      c.args.log.now.entries c.in_ok-rules.ensures.is c.entries.ensures.is c.in_ok-verdict.verdict
      c.in_ok-verdict.ensures.verdict (verdicts.Missing path),
  verdict-only (task_by c.in_ok-rules.rules)
      (task_of c.args.instance.now (charge_of c.args.charges.now)) c.args.loss c.entries.result.now
      c.args.log.now.entries c.in_ok-rules.ensures.is c.entries.ensures.is c.in_ok-verdict.verdict
      c.in_ok-verdict.ensures.verdict (verdicts.Missing path),
)

pub returns-clause-stray : goal.returns-clause-stray
returns-clause-stray c path = (
  verdict-given (task_by c.in_ok-rules.rules)
      (task_of c.args.instance.now (charge_of c.args.charges.now)) c.args.loss c.entries.result.now
      c.args.log.now.entries c.in_ok-rules.ensures.is c.entries.ensures.is c.in_ok-verdict.verdict
      c.in_ok-verdict.ensures.verdict (verdicts.Stray path),
  verdict-only (task_by c.in_ok-rules.rules)
      (task_of c.args.instance.now (charge_of c.args.charges.now)) c.args.loss c.entries.result.now
      c.args.log.now.entries c.in_ok-rules.ensures.is c.entries.ensures.is c.in_ok-verdict.verdict
      c.in_ok-verdict.ensures.verdict (verdicts.Stray path),
)

pub returns-clause-unsound : goal.returns-clause-unsound
returns-clause-unsound c path = (
  verdict-given (task_by c.in_ok-rules.rules)
      (task_of c.args.instance.now (charge_of c.args.charges.now)) c.args.loss c.entries.result.now
      c.args.log.now.entries c.in_ok-rules.ensures.is c.entries.ensures.is c.in_ok-verdict.verdict
      c.in_ok-verdict.ensures.verdict (verdicts.Unsound path),
  verdict-only (task_by c.in_ok-rules.rules)
      (task_of c.args.instance.now (charge_of c.args.charges.now)) c.args.loss c.entries.result.now
      c.args.log.now.entries c.in_ok-rules.ensures.is c.entries.ensures.is c.in_ok-verdict.verdict
      c.in_ok-verdict.ensures.verdict (verdicts.Unsound path),
)

pub returns-clause-bound : goal.returns-clause-bound
returns-clause-bound c e plan l =
    let none : charge_of c.args.charges.now 0 ≡ 0 = c.args.charges.now.free in
    refuted-loss-bounds (mill_of c.args.instance.now) (charge_of c.args.charges.now)
    c.args.instance.now.orders c.args.loss c.args.log.now.entries none
    (
    verdict-given (task_by c.in_ok-rules.rules)
    (task_of c.args.instance.now (charge_of c.args.charges.now)) c.args.loss c.entries.result.now
    c.args.log.now.entries c.in_ok-rules.ensures.is c.entries.ensures.is c.in_ok-verdict.verdict
    c.in_ok-verdict.ensures.verdict verdicts.Refutes e) plan l
