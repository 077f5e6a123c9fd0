use Rattle.std.proofs.Common.{length, refl}
use Rattle.answer_text.proofs.Printed.{may-print}
use Rattle.answer_text.proofs.tests.answer_of.Goals as goal

pub returns : goal.returns
returns c =
    may-print (length c.in_ok-instance.instance.orders) c.in_ok-answer.answer
    c.in_ok-instance.ensures
    ((c.in_ok-answer.ensures.answer c.in_ok-answer.answer).only refl).fits
