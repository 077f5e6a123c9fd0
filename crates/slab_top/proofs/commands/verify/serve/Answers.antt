use Rattle.std.specs.Prelude.{IfSome, IfNone}
use Rattle.std.proofs.Common.{refl, inl, inr, subst}
use Rattle.reply_text.specs.declared.refusal.Refusal.TheVariants.{AnswerKind}
use Rattle.judge_answer.specs.Verify.{IsVerdictOn, ProvesNothing}
use Rattle.judge_answer.proofs.SaidOnce.{nothing-said}
use Rattle.slab_top.proofs.commands.verify.serve.Goals as goal

pub returns-in-Some-clause-reply : goal.returns-in-Some-clause-reply
returns-in-Some-clause-reply c =
    let problem = c.in_ok-instance.instance in
    let answer = c.in_ok-instance.answer in
    let judgement = c.in-Some.judgement in
    let said = subst (λ said. IfSome said (IsVerdictOn problem answer)) c.in-Some.is
    c.in_ok-judgement.ensures.some in
    inr (
      (problem, answer),
      (
        (problem, answer),
        c.in_ok-instance.ensures,
        (refl, nothing-said problem answer judgement said),
      ),
      (judgement, refl, said),
    )

pub returns-clause-reply : goal.returns-clause-reply
returns-clause-reply c =
    let problem = c.in_ok-instance.instance in
    let answer = c.in_ok-instance.answer in
    let nothing = subst (λ said. IfNone said (ProvesNothing answer)) c.in-None.is
    c.in_ok-judgement.ensures.none in
    inl (
      AnswerKind,
      refl,
      inr ((problem, answer), c.in_ok-instance.ensures, (refl, nothing)),
    )
