use Rattle.std.proofs.Common.{refl, sym, subst}
use Rattle.instance_facts.proofs.Charged.{table-is-charge}
use Rattle.judge_answer.specs.Check.{IsSaidOfPlan}
use Rattle.judge_answer.proofs.Tabled.{tabled-legal}
use Rattle.judge_answer.proofs.stated.check_plan.Goals as goal
use Rattle.judge_answer.proofs.stated.check_plan.Goals.{in-Legal, in-Legal-2, in-Heavy}
use Rattle.judge_answer.proofs.stated.check_plan.Goals.{in-Colourful}

pub returns : goal.returns
returns c =
    let problem = c.args.instance.now in
    let plan = c.args.plan.now in
    let verdict = c.in_ok-loss.ensures in
    let legal = tabled-legal problem _
    (table-is-charge problem c.args.charges.now c.requires.charges) plan in
    elim c.match-branch-2.branch [
      | in-Legal w ↦ subst (IsSaidOfPlan problem c.args.stated plan) (sym w.judgement-is) (
        legal w.in-Legal.loss ((verdict.legal w.in-Legal.loss).0 w.in-Legal.is),
        sym w.if-loss-stated.true,
      )
      | in-Legal-2 w ↦ subst (IsSaidOfPlan problem c.args.stated plan) (sym w.judgement-is) (
        legal w.in-Legal.loss ((verdict.legal w.in-Legal.loss).0 w.in-Legal.is),
        refl,
        λ same. w.if-loss-stated.false (sym same),
      )
      | in-Heavy w ↦ subst (IsSaidOfPlan problem c.args.stated plan) (sym w.judgement-is)
          ((verdict.heavy w.in-Heavy.slab w.in-Heavy.load).0 w.in-Heavy.is)
      | in-Colourful w ↦ subst (IsSaidOfPlan problem c.args.stated plan) (sym w.judgement-is)
          ((verdict.colourful w.in-Colourful.slab w.in-Colourful.colours).0 w.in-Colourful.is)
    ]
