use Rattle.std.proofs.Common.{length, subst, inl, inr}
use Rattle.answer_text.specs.Text.{Fits}
use Rattle.judge_answer.proofs.Numbered.{numbers-from}
use Rattle.judge_answer.proofs.stated.check.Goals as goal

pub check_plan-requires-clause-numbers : goal.check_plan-requires-clause-numbers
check_plan-requires-clause-numbers c =
    let orders = c.args.instance.now.orders in
    let given : Fits (length orders) c.args.answer.now =
    record { numbers = c.requires.numbers; refutation = c.requires.refutation } in
    elim c.in-Optimal.is [
      | inl optimal ↦
          (let fits = subst (Fits (length orders)) optimal.1 given in
          numbers-from orders c.in-Optimal.plan fits.numbers.1.1.0.0 fits.numbers.1.1.0.1)
      | inr feasible ↦
          (let fits = subst (Fits (length orders)) feasible.1 given in
          numbers-from orders c.in-Optimal.plan fits.numbers.1.1.0.0 fits.numbers.1.1.0.1)
    ]
