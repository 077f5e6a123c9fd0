-- The instance in front is read first. A refusal is that of the first reader that refuses.
use Rattle.std.specs.Prelude.{Err}
use Rattle.std.proofs.Common.{◌≡◌, length, refl, ap, sym, subst, rules}
use Rattle.line_text.specs.Lines.{text_lines}
use Rattle.answer_text.specs.Text.{IsAnswerText}
use Rattle.answer_text.specs.Judged.{IsBadLine, IsNotRising, CountIsOther}
use Rattle.job_words.specs.declared.option.Setting.TheVariants.{Colours}
use Rattle.reply_text.specs.Stop.{stop_in_answer}
use Rattle.slab_top.specs.Input.{Front, instance_with_answer}
use Rattle.slab_top.specs.Reply.{IsReading}
use Rattle.slab_top.proofs.Stopped.{answer-stops}
use Rattle.slab_top.proofs.front.read_with_answer.Goals as goal

pub read_instance-requires-clause-low : goal.read_instance-requires-clause-low
read_instance-requires-clause-low c = (c.requires.in_range Colours).0

pub read_instance-requires-clause-high : goal.read_instance-requires-clause-high
read_instance-requires-clause-high c = (c.requires.in_range Colours).1

pub returns-in_err-answer : goal.returns-in_err-answer
returns-in_err-answer c =
    let front : Front = record {
      problem = c.in_ok-instance.instance;
      end = c.in_ok-instance.end;
    } in
    let orders = length c.in_ok-instance.instance.orders in
    let same = ap text_lines c.text_behind.ensures in
    let stopped : c.from_residual-in_err-answer.result
    ≡ Err (stop_in_answer c.in_err-answer.field-0.0) = search rules in
    subst (IsReading (instance_with_answer c.args.job.p c.args.input.now)) (sym stopped)
    (answer-stops c.args.job.p c.args.input.now front c.in_ok-instance.ensures.limit
    c.in_ok-instance.ensures.found c.in_err-answer.field-0.0
    (λ number is. subst (λ lines. IsBadLine orders lines number) same
    ((c.in_err-answer.ensures.bad_line number).only (ap Err is)))
    (λ number is. subst (λ lines. IsNotRising orders lines number) same
    ((c.in_err-answer.ensures.not_rising number).only (ap Err is)))
    (λ stated found is. subst (λ lines. CountIsOther orders lines stated found) same
    ((c.in_err-answer.ensures.count_differs stated found).only (ap Err is))))

pub returns : goal.returns
returns c =
    let front : Front = record {
      problem = c.in_ok-instance.instance;
      end = c.in_ok-instance.end;
    } in
    let orders = length c.in_ok-instance.instance.orders in
    let same = ap text_lines c.text_behind.ensures in (
      front,
      (c.in_ok-instance.ensures.limit, c.in_ok-instance.ensures.found),
      (
        refl,
        subst (IsAnswerText orders c.in_ok-answer.answer) same
            ((c.in_ok-answer.ensures.answer c.in_ok-answer.answer).only refl),
      ),
    )
