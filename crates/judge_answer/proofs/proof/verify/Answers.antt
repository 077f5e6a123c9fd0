use Rattle.std.proofs.Common.{length, subst}
use Rattle.answer_text.specs.Text.{Fits}
use Rattle.judge_answer.proofs.Numbered.{numbers-from}
use Rattle.judge_answer.proofs.proof.verify.Goals as goal

pub verify_proof-requires-clause-numbers : goal.verify_proof-requires-clause-numbers
verify_proof-requires-clause-numbers c =
    let orders = c.args.instance.now.orders in
    let fits = subst (Fits (length orders)) c.in-Optimal-default-default-Some.is
    (record { numbers = c.requires.numbers; refutation = c.requires.refutation }) in
    numbers-from orders c.in-Optimal-default-default-Some.plan fits.numbers.1.1.0.0
    fits.numbers.1.1.0.1
