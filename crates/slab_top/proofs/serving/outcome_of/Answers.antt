-- A job that reads is served what was read, or refused too many bytes; another one is served
-- nothing.
use Rattle.std.proofs.Common.{◌≡◌, ◌+◌, ◌≤◌, [], length, vec_len, rules, arith, sym, ◌∙◌, subst}
use Rattle.std.proofs.KnownBytes.{Consumes-whole}
use Rattle.std.proofs.lemmas.Result.{IfOk-weaker, on_ok_weaker}
use Rattle.std.specs.Prelude.{Some, None}
use Rattle.std.specs.Io.KnownBytes.{IsAtEnd}
use Rattle.mill_io.specs.Bytes.{GivesCount, HasMoreThan}
use Rattle.job_words.specs.Words.{limit_of}
use Rattle.reply_text.specs.declared.outcome.Outcome.TheVariants.{Refused}
use Rattle.reply_text.specs.declared.refusal.Refusal.TheVariants.{TooLong}
use Rattle.slab_top.specs.Input.{ReadsWhole}
use Rattle.slab_top.specs.Served.{Serves, IsServed}
use Rattle.slab_top.specs.Given.{HasAnswered}
use Rattle.slab_top.proofs.Rights.{served-whole, served-long, served-unread}
use Rattle.slab_top.proofs.Rights.{long-not-whole, unread-not-whole}
use Rattle.slab_top.proofs.Given.{answered-whole, answered-long, answered-unread}
use Rattle.slab_top.proofs.serving.outcome_of.Goals as goal

-- A command without a limit reads nothing.

pub returns-in_default-clause-served : goal.returns-in_default-clause-served
returns-in_default-clause-served g c =
    IfOk-weaker c.answered.result _ _
    (λ outcome serves. served-unread c.args.job (g.S.Source.left c.args.source.now) outcome
    (sym c.in_default.ensures) serves) c.answered.ensures.served

pub returns-in_default-clause-ended : goal.returns-in_default-clause-ended
returns-in_default-clause-ended g c =
    IfOk-weaker c.answered.result _ _
    (λ outcome serves. unread-not-whole c.args.job (g.S.Source.left c.args.source.now) _
    (sym c.in_default.ensures)) c.answered.ensures.served

pub returns-in_default-clause-given : goal.returns-in_default-clause-given
returns-in_default-clause-given g c =
    IfOk-weaker c.answered.result _ _
    (λ outcome serves. answered-unread c.args.job (g.S.Source.given c.args.source.now)
    (g.S.Source.ended c.args.source.now) outcome (sym c.in_default.ensures) serves)
    c.answered.ensures.served

-- Too many bytes are refused.

pub returns-in-Err-TooLong-clause-served : goal.returns-in-Err-TooLong-clause-served
returns-in-Err-TooLong-clause-served g c =
    let left = g.S.Source.left c.args.source.now in
    let more : HasMoreThan c.in-Some.limit left = search rules in
    served-long c.args.job c.in-Some.limit left (sym c.in-Some.ensures) more

pub returns-in-Err-TooLong-clause-ended : goal.returns-in-Err-TooLong-clause-ended
returns-in-Err-TooLong-clause-ended g c =
    let left = g.S.Source.left c.args.source.now in
    let more : HasMoreThan c.in-Some.limit left = search rules in
    long-not-whole c.args.job c.in-Some.limit left _ (sym c.in-Some.ensures) more

pub returns-in-Err-TooLong-clause-given : goal.returns-in-Err-TooLong-clause-given
returns-in-Err-TooLong-clause-given g c =
    let was = g.S.Source.given c.args.source.now in
    let now = g.S.Source.given c.read_all.new.source in
    let ended = g.S.Source.ended c.read_all.new.source in
    let past : GivesCount (c.in-Some.limit + 1) was now = search rules in
    answered-long c.args.job c.in-Some.limit was now ended (sym c.in-Some.ensures) past

-- All that was read is served.

pub returns-clause-served : goal.returns-clause-served
returns-clause-served g c =
    let count : vec_len c.in-Ok.input ≡ length c.in-Ok.input.items = search rules in
    IfOk-weaker c.answered-2.result _ _
    (λ outcome serves. served-whole c.args.job c.in-Some.limit _ _ c.in-Ok.input.items outcome
    (sym c.in-Some.ensures) c.in-Ok.ensures.all c.in-Ok.ensures.end
    (omega (arith, c.in-Ok.ensures.within, count))
    (subst (λ bytes. Serves c.args.job.command c.args.job bytes outcome)
    c.deref.ensures.value serves)) c.answered-2.ensures.served

pub returns-clause-ended : goal.returns-clause-ended
returns-clause-ended g c =
    IfOk-weaker c.answered-2.result _ _
    (λ outcome serves. Consumes-whole _ _ c.in-Ok.input.items
    (λ input. ReadsWhole (limit_of c.args.job.command) input
    → IsAtEnd (g.S.Source.left c.read_all.new.source)) c.in-Ok.ensures.all c.in-Ok.ensures.end
    (λ short. c.in-Ok.ensures.end)) c.answered-2.ensures.served

pub returns-clause-given : goal.returns-clause-given
returns-clause-given g c =
    let count : vec_len c.in-Ok.input ≡ length c.in-Ok.input.items = search rules in
    IfOk-weaker c.answered-2.result _ _
    (λ outcome serves. answered-whole c.args.job c.in-Some.limit _ _ c.in-Ok.input.items _ outcome
    (sym c.in-Some.ensures) c.in-Ok.ensures.given c.in-Ok.ensures.ended
    (omega (arith, c.in-Ok.ensures.within, count))
    (subst (λ bytes. Serves c.args.job.command c.args.job bytes outcome)
    c.deref.ensures.value serves)) c.answered-2.ensures.served
