use Rattle.std.proofs.Common.{sym, subst}
use Rattle.log_checker.specs.Verdict.{is_missing, is_stray, is_unsound}
use Rattle.instance_facts.proofs.Charged.{table-is-charge}
use Rattle.judge_answer.specs.Check.{IsLegalWith, IsSaidOfPlan}
use Rattle.judge_answer.specs.Verify.{IsSaidOfProof}
use Rattle.judge_answer.proofs.Tabled.{tabled-verified, tabled-fault}
use Rattle.judge_answer.proofs.proof.verify_proof.Goals as goal
use Rattle.judge_answer.proofs.proof.verify_proof.Goals.{in-Refutes, in-Missing, in-Stray}
use Rattle.judge_answer.proofs.proof.verify_proof.Goals.{in-Unsound}

pub returns : goal.returns
returns c =
    let problem = c.args.instance.now in
    let plan = c.args.plan.now in
    let log = c.args.log.now.entries in
    let stated = c.args.stated in
    let same = table-is-charge problem c.in_ok-charges.charges c.in_ok-charges.ensures in
    let said = subst (IsSaidOfPlan problem stated plan) c.in-Legal.is c.in_ok-judgement.ensures in
    let legal = subst (IsLegalWith problem plan) (sym said.1) said.0 in
    let fault = tabled-fault problem _ same stated plan log legal in
    let verdict = c.in_ok-check_log.ensures in
    elim c.match-branch-4.branch [
      | in-Refutes w ↦ subst (IsSaidOfProof problem stated plan log) (sym w.judgement-is)
          (tabled-verified problem _ same stated plan log legal
          (verdict.refutes.0 w.in-Refutes.is) (verdict.bound w.in-Refutes.is))
      | in-Missing w ↦ subst (IsSaidOfProof problem stated plan log) (sym w.judgement-is)
          (fault (λ task. is_missing task log) w.in-Missing.path
          ((verdict.missing w.in-Missing.path).0 w.in-Missing.is))
      | in-Stray w ↦ subst (IsSaidOfProof problem stated plan log) (sym w.judgement-is)
          (fault (λ task. is_stray task log) w.in-Stray.path
          ((verdict.stray w.in-Stray.path).0 w.in-Stray.is))
      | in-Unsound w ↦ subst (IsSaidOfProof problem stated plan log) (sym w.judgement-is)
          (fault (λ task. is_unsound task stated log) w.in-Unsound.path
          ((verdict.unsound w.in-Unsound.path).0 w.in-Unsound.is))
    ]
