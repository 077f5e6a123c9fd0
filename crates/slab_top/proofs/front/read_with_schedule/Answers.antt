-- The instance in front is read first. A refusal is that of the first reader that refuses.
use Rattle.std.proofs.Common.{refl, ap, inr, subst}
use Rattle.job_words.specs.declared.option.Setting.TheVariants.{Colours}
use Rattle.reply_text.specs.declared.refusal.Refusal.TheVariants.{Schedule}
use Rattle.schedule_text.specs.Text.{IsScheduleText, IsWrongToken, HasCause}
use Rattle.schedule_text.specs.declared.error.ScheduleTextError.TheVariants.{BadToken}
use Rattle.slab_top.specs.Input.{Front}
use Rattle.slab_top.proofs.front.read_with_schedule.Goals as goal

pub read_instance-requires-clause-low : goal.read_instance-requires-clause-low
read_instance-requires-clause-low c = (c.requires.in_range Colours).0

pub read_instance-requires-clause-high : goal.read_instance-requires-clause-high
read_instance-requires-clause-high c = (c.requires.in_range Colours).1

pub returns-in-Ok : goal.returns-in-Ok
returns-in-Ok c =
    let front : Front = record {
      problem = c.in_ok-instance.instance;
      end = c.in_ok-instance.end;
    } in (
      front,
      (c.in_ok-instance.ensures.limit, c.in_ok-instance.ensures.found),
      (
        refl,
        subst (λ text. IsScheduleText c.args.job.limits.workers text c.in-Ok.schedule.items)
            c.text_behind.ensures c.in-Ok.ensures.schedule,
      ),
    )

pub returns-in-Err-BadToken : goal.returns-in-Err-BadToken
returns-in-Err-BadToken c =
    let front : Front = record {
      problem = c.in_ok-instance.instance;
      end = c.in_ok-instance.end;
    } in
    let workers = c.args.job.limits.workers in
    let token = c.in-Err-BadToken.token in
    let wrong : HasCause workers c.text_behind.result.now (BadToken token) =
    subst (HasCause workers c.text_behind.result.now) c.in-Err-BadToken.field-0-is
    c.in-Err-BadToken.ensures.refused in
    inr (
      front,
      (c.in_ok-instance.ensures.limit, c.in_ok-instance.ensures.found),
      (
        token,
        ap Schedule c.in-Err-BadToken.token-is,
        subst (λ text. IsWrongToken workers text token) c.text_behind.ensures wrong,
      ),
    )
