use Rattle.std.proofs.Common.{◌≡◌, ◌≢◌, ◌<◌, ◌^◌, ◌∙◌, length, ap, arith, Result, Ok, Err}
use Rattle.line_text.specs.Lines.{text_lines}
use Rattle.answer_text.specs.declared.answer.Answer.{Answer}
use Rattle.answer_text.specs.declared.error.AnswerTextError.{AnswerTextError}
use Rattle.answer_text.specs.declared.error.AnswerTextError.TheVariants.{BadLine, NotRising}
use Rattle.answer_text.specs.declared.error.AnswerTextError.TheVariants.{CountDiffers}
use Rattle.answer_text.specs.declared.error.AnswerTextError.TheVariants.{OutOfMemory}
use Rattle.answer_text.specs.Judged.{ComesWhere}
use Rattle.answer_text.specs.Reading.{Reading}
use Rattle.answer_text.proofs.Unique.{Says, says-result, comes-where}
use Rattle.answer_text.proofs.read.parse_answer.Goals as goal

-- each answer but want of memory comes exactly where what it says of the text holds
comes : (c : goal.After-whole) (answer : Result Answer AnswerTextError) → answer ≢ Err OutOfMemory
    → ComesWhere c.whole.result answer
    (Says (length c.args.instance.now.orders) (text_lines c.args.bytes.now) answer)
comes c answer memory =
    let orders : c.new-2.result.orders ≡ length c.args.instance.now.orders =
    ap (λ (r : Reading). r.orders) c.new-2.ensures ∙ ap length c.orders.ensures.is in
    let lines : c.new-2.result.rest ≡ text_lines c.args.bytes.now =
    ap (λ (r : Reading). r.rest) c.new-2.ensures ∙ c.new.ensures.is in
    let small : c.new-2.result.orders < 2 ^ 16 =
    omega (arith, orders, c.orders.ensures.kept.within.few_orders) in
    rw (← orders, ← lines) (comes-where c.new-2.result.orders c.new-2.result.rest
    c.whole.result answer small (says-result c.new-2.result.orders c.new-2.result.rest
    c.whole.result c.whole.ensures.ok c.whole.ensures.err) memory)

pub returns-clause-answer : goal.returns-clause-answer
returns-clause-answer c answer = comes c (Ok answer) (λ e. cc)

pub returns-clause-bad_line : goal.returns-clause-bad_line
returns-clause-bad_line c line = comes c (Err (BadLine line)) (λ e. cc)

pub returns-clause-not_rising : goal.returns-clause-not_rising
returns-clause-not_rising c line = comes c (Err (NotRising line)) (λ e. cc)

pub returns-clause-count_differs : goal.returns-clause-count_differs
returns-clause-count_differs c stated found =
    comes c (Err (CountDiffers stated found)) (λ e. cc)
