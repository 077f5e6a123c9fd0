use Rattle.std.proofs.Common.{◌≡◌, ◌++◌, ◌∷◌, [], ◌∙◌, sym, subst, arith, rules}
use Rattle.std.proofs.lemmas.Result.{IfOk-weaker}
use Rattle.log_checker.specs.Agenda.{wanted_path}
use Rattle.log_checker.specs.ByRules.{task_by}
use Rattle.log_checker.specs.Verdict.{IsVerdict}
use Rattle.log_checker.specs.declared.verdict.LogVerdict.TheVariants.{Missing}
use Rattle.log_checker.proofs.OneRecord.{end-refutes, end-missing, found-verdict}
use Rattle.log_checker.proofs.check.check_by.Goals as goal

pub returns-in-Some : goal.returns-in-Some
returns-in-Some c =
    let f = rw c.in-Some.is at c.in_ok-found.ensures.found in
    record {
      verdict = found-verdict (task_by c.args.rules.now) c.args.loss c.args.log.now
          c.in-Some.verdict c.requires.rising (f ∙ c.loop-i.invariant.is);
    }

pub returns-in-Some-pop : goal.returns-in-Some-pop
returns-in-Some-pop c =
    let task = task_by c.args.rules.now in
    let e : c.loop-i.waiting.items ≡ c.pop.new.self.items ++ c.in-Some-pop.wanted ∷ [] =
    search rules in
    record {
      verdict = IfOk-weaker c.missing.result
          (λ v. v ≡ Missing (wanted_path c.args.log.now c.in-Some-pop.wanted))
          (λ v. IsVerdict task c.args.loss c.args.log.now v)
          (λ v q. subst (IsVerdict task c.args.loss c.args.log.now) (sym q)
          (end-missing task c.args.loss c.args.log.now c.loop-i.i c.loop-i.waiting.items
          c.pop.new.self.items c.in-Some-pop.wanted c.requires.rising c.loop-i.invariant.is
          (omega (arith, c.loop-i-test.false)) e)) c.missing.ensures;
    }

pub returns : goal.returns
returns c =
    let e : c.loop-i.waiting.items ≡ [] = search rules in
    record {
      verdict = end-refutes (task_by c.args.rules.now) c.args.loss c.args.log.now c.loop-i.i
          c.loop-i.waiting.items c.requires.rising c.loop-i.invariant.is
          (omega (arith, c.loop-i-test.false)) e;
    }
