-- What the parts of the call give, put together: an output that is right, that every right one
-- agrees with it, and the cause of each failure.
use Rattle.std.proofs.Common.{◌≢◌, [], ◌∙◌, refl, sym, subst, arith}
use Rattle.std.specs.Prelude.{IsSome}
use Rattle.std.proofs.lemmas.List.{append-nil}
use Rattle.std.specs.Io.KnownBytes.{Appends}
use Rattle.mill_io.specs.Bytes.{AppendsFront}
use Rattle.job_words.specs.Words.{texts}
use Rattle.reply_text.specs.declared.status.TheConstants.{WRITE_FAULT}
use Rattle.slab_top.specs.Served.{WrongWords, Answered}
use Rattle.slab_top.specs.Agree.{MayEndWith}
use Rattle.slab_top.proofs.Replying.{agree-status, outcome-own}
use Rattle.slab_top.proofs.Rights.{right-agree, enough-served, ended-for, wrong-agree, unread-for}
use Rattle.slab_top.proofs.Rights.{served-run, none-kept}
use Rattle.slab_top.proofs.Given.{served-whole-of, served-none, enough-given}
use Rattle.slab_top.proofs.serving.serve_words.Goals as goal

-- a searcher that has threads where the words need them has them where their job does

pub outcome_of-requires-clause-threads : goal.outcome_of-requires-clause-threads
outcome_of-requires-clause-threads g c needs =
    c.requires.threads (record {
      job = c.in-Ok.job;
      asked = c.in-Ok.ensures.job;
      needs = needs;
    })

pub write_out-status-requires : goal.write_out-status-requires
write_out-status-requires g c = record {
  told = c.in-Ok-outcome_of.ensures.told;
  own = outcome-own c.in-Ok-outcome_of.outcome;
}

-- Words that ask for a job: the output that was written is right,

pub returns-in-Ok-outcome_of-clause-answered : goal.returns-in-Ok-outcome_of-clause-answered
returns-in-Ok-outcome_of-clause-answered g c whole = (
  Answered c.in-Ok-outcome_of.outcome,
  (c.in-Ok.job, c.in-Ok.ensures.job, c.in-Ok-outcome_of.ensures.served),
  c.write_out-status.ensures.status whole.written,
  c.write_out-status.ensures.whole whole.written,
  c.run_behind.ensures.written whole.written,
)

-- with the run behind it where it is feasible,

pub returns-in-Ok-outcome_of-clause-kept : goal.returns-in-Ok-outcome_of-clause-kept
returns-in-Ok-outcome_of-clause-kept g c feasible =
    let outcome = c.in-Ok-outcome_of.outcome in
    let hands = served-run c.in-Ok.job _ outcome c.in-Ok-outcome_of.ensures.served in
    let written : c.write_out-status.result ≢ WRITE_FAULT =
    λ failed. omega (arith, feasible, failed) in
    let status = c.write_out-status.ensures.status written in
    subst IsSome (sym (c.run_behind.ensures.written written)) (hands.feasible (sym status
    ∙ feasible))

pub returns-in-Ok-outcome_of-clause-none_kept : goal.returns-in-Ok-outcome_of-clause-none_kept
returns-in-Ok-outcome_of-clause-none_kept g c =
    let outcome = c.in-Ok-outcome_of.outcome in
    none-kept outcome c.write_out-status.result c.run_behind.result
    (served-run c.in-Ok.job _ outcome c.in-Ok-outcome_of.ensures.served)
    (λ written. c.write_out-status.ensures.status written)
    c.run_behind.ensures.written c.run_behind.ensures.failed

pub returns-in-Ok-outcome_of-clause-front : goal.returns-in-Ok-outcome_of-clause-front
returns-in-Ok-outcome_of-clause-front g c failed = (
  Answered c.in-Ok-outcome_of.outcome,
  (c.in-Ok.job, c.in-Ok.ensures.job, c.in-Ok-outcome_of.ensures.served),
  c.write_out-status.ensures.front failed,
)

-- and agrees with each other that is.

pub returns-in-Ok-outcome_of-clause-told : goal.returns-in-Ok-outcome_of-clause-told
returns-in-Ok-outcome_of-clause-told g c whole told output right = (
  Answered c.in-Ok-outcome_of.outcome,
  right-agree (texts c.args.words.now) c.in-Ok.job _
      (λ other asked. let same = c.in-Ok.ensures.asked other asked in cc)
      c.in-Ok-outcome_of.outcome output c.in-Ok.ensures.job told
      c.in-Ok-outcome_of.ensures.served right,
  c.write_out-status.ensures.whole whole.written,
)

pub returns-in-Ok-outcome_of-clause-exact : goal.returns-in-Ok-outcome_of-clause-exact
returns-in-Ok-outcome_of-clause-exact g c whole told output right =
    let own = c.in-Ok-outcome_of.outcome in
    let status = c.write_out-status.ensures.status whole.written in
    subst (MayEndWith output) (sym status)
    (agree-status (Answered own) output (right-agree (texts c.args.words.now) c.in-Ok.job _
    (λ other asked. let same = c.in-Ok.ensures.asked other asked in cc) own output
    c.in-Ok.ensures.job told c.in-Ok-outcome_of.ensures.served right))

pub returns-in-Ok-outcome_of-clause-enough : goal.returns-in-Ok-outcome_of-clause-enough
returns-in-Ok-outcome_of-clause-enough g c =
    enough-served (texts c.args.words.now) c.in-Ok.job _
    (λ other asked. let same = c.in-Ok.ensures.asked other asked in cc)
    c.in-Ok-outcome_of.outcome c.write_out-status.result c.in-Ok-outcome_of.ensures.served
    (λ written. c.write_out-status.ensures.status written)

pub returns-in-Ok-outcome_of-clause-ended : goal.returns-in-Ok-outcome_of-clause-ended
returns-in-Ok-outcome_of-clause-ended g c whole =
    ended-for (texts c.args.words.now) c.in-Ok.job _
    (λ other asked. let same = c.in-Ok.ensures.asked other asked in cc) _
    c.in-Ok-outcome_of.ensures.ended

pub returns-in-Ok-outcome_of-clause-unread : goal.returns-in-Ok-outcome_of-clause-unread
returns-in-Ok-outcome_of-clause-unread g c none =
    c.in-Ok-outcome_of.ensures.unread (none c.in-Ok.job c.in-Ok.ensures.job)

-- Words that ask for nothing.

pub returns-in-Ok-write_usage-clause-answered : goal.returns-in-Ok-write_usage-clause-answered
returns-in-Ok-write_usage-clause-answered g c whole = (
  WrongWords,
  λ job asked. let error = c.in_default.ensures.asked job asked in absurd (cc),
  refl,
  c.in-Ok-write_usage.ensures.ok,
  refl,
)

pub returns-in-Ok-write_usage-clause-told : goal.returns-in-Ok-write_usage-clause-told
returns-in-Ok-write_usage-clause-told g c whole told output right = (
  WrongWords,
  wrong-agree (texts c.args.words.now) _
      (λ job asked. let error = c.in_default.ensures.asked job asked in absurd (cc)) output right,
  c.in-Ok-write_usage.ensures.ok,
)

pub returns-in-Ok-write_usage-clause-exact : goal.returns-in-Ok-write_usage-clause-exact
returns-in-Ok-write_usage-clause-exact g c whole told output right =
    agree-status WrongWords output (wrong-agree (texts c.args.words.now) _
    (λ job asked. let error = c.in_default.ensures.asked job asked in absurd (cc)) output right)

pub returns-in-Ok-write_usage-clause-ended : goal.returns-in-Ok-write_usage-clause-ended
returns-in-Ok-write_usage-clause-ended g c whole =
    unread-for (texts c.args.words.now) _
    (λ job asked. let error = c.in_default.ensures.asked job asked in absurd (cc)) _

pub returns-in-Err-clause-front : goal.returns-in-Err-clause-front
returns-in-Err-clause-front g c failed = (
  WrongWords,
  λ job asked. let error = c.in_default.ensures.asked job asked in absurd (cc),
  c.in-Err.ensures.err,
)

-- What the reads of this call gave, where the words ask for a job,

pub returns-in-Ok-outcome_of-clause-given : goal.returns-in-Ok-outcome_of-clause-given
returns-in-Ok-outcome_of-clause-given g c whole =
    let answered = c.in-Ok-outcome_of.ensures.given in (
      answered.input,
      Answered c.in-Ok-outcome_of.outcome,
      answered.given,
      served-whole-of (texts c.args.words.now) c.in-Ok.job _ _ _ c.in-Ok-outcome_of.outcome
          c.in-Ok.ensures.job (λ other asked. let same = c.in-Ok.ensures.asked other asked in cc)
          answered,
      c.write_out-status.ensures.status whole.written,
      c.write_out-status.ensures.whole whole.written,
      c.run_behind.ensures.written whole.written,
    )

pub returns-in-Ok-outcome_of-clause-given_front : goal.returns-in-Ok-outcome_of-clause-given_front
returns-in-Ok-outcome_of-clause-given_front g c failed =
    let answered = c.in-Ok-outcome_of.ensures.given in (
      answered.input,
      Answered c.in-Ok-outcome_of.outcome,
      answered.given,
      served-whole-of (texts c.args.words.now) c.in-Ok.job _ _ _ c.in-Ok-outcome_of.outcome
          c.in-Ok.ensures.job (λ other asked. let same = c.in-Ok.ensures.asked other asked in cc)
          answered,
      c.write_out-status.ensures.front failed,
    )

pub returns-in-Ok-outcome_of-clause-given_enough : goal.returns-in-Ok-outcome_of-clause-given_enough
returns-in-Ok-outcome_of-clause-given_enough g c =
    enough-given (texts c.args.words.now) c.in-Ok.job _ _ _ c.in-Ok-outcome_of.outcome
    c.in-Ok.ensures.job (λ other asked. let same = c.in-Ok.ensures.asked other asked in cc)
    c.in-Ok-outcome_of.ensures.given c.write_out-status.result
    (λ written. c.write_out-status.ensures.status written)

-- and where they ask for nothing.

pub returns-in-Ok-write_usage-clause-given : goal.returns-in-Ok-write_usage-clause-given
returns-in-Ok-write_usage-clause-given g c whole = (
  [],
  WrongWords,
  sym (append-nil _),
  served-none (texts c.args.words.now) _
      (λ job asked. let error = c.in_default.ensures.asked job asked in absurd (cc)),
  refl,
  c.in-Ok-write_usage.ensures.ok,
  refl,
)

pub returns-in-Err-clause-given_front : goal.returns-in-Err-clause-given_front
returns-in-Err-clause-given_front g c failed = (
  [],
  WrongWords,
  sym (append-nil _),
  served-none (texts c.args.words.now) _
      (λ job asked. let error = c.in_default.ensures.asked job asked in absurd (cc)),
  c.in-Err.ensures.err,
)
