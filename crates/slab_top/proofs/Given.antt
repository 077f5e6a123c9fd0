-- Outputs that are right for the bytes that the reads of a call gave.
use Rattle.std.specs.Prelude.{Some, None}
use Rattle.std.proofs.Common.{◌≡◌, ◌≢◌, ◌+◌, ◌≤◌, ◌++◌, ◌∙◌, ℕ, List, [], length, refl, sym, subst}
use Rattle.std.proofs.Common.{arith, inl, inr}
use Rattle.std.proofs.lemmas.List.{append_cancel_left, append-nil}
use Rattle.mill_io.specs.Bytes.{GivesCount}
use Rattle.job_words.specs.declared.job.Job.{Job}
use Rattle.job_words.specs.Words.{AskFor, limit_of}
use Rattle.reply_text.specs.declared.outcome.Outcome.{Outcome}
use Rattle.reply_text.specs.declared.outcome.Outcome.TheVariants.{Refused}
use Rattle.reply_text.specs.declared.refusal.Refusal.TheVariants.{TooLong}
use Rattle.reply_text.specs.declared.status.TheConstants.{FEASIBLE, WRITE_FAULT}
use Rattle.reply_text.specs.Outcome as told
use Rattle.slab_top.specs.Input.{ReadsWhole}
use Rattle.slab_top.specs.Served.{Serves, IsServed, WrongWords, Answered}
use Rattle.slab_top.specs.Run.{HasEnough}
use Rattle.slab_top.specs.Given.{HasAnswered, IsServedWhole}
use Rattle.slab_top.proofs.Limit.{is-within, not-whole, reads-all, reads-nothing, refuses-long}
use Rattle.slab_top.proofs.Rights.{right-agree, enough-served, wrong-agree}

-- ---- a job

-- all that was given was served
pub answered-whole : (job : Job) (limit : ℕ) (old new input : List ℕ) (Ended : Type 0)
    (outcome : Outcome) → limit_of job.command ≡ Some limit → new ≡ old ++ input → Ended →
    length input ≤ limit → Serves job.command job input outcome →
    HasAnswered job old new Ended outcome
answered-whole job limit old new input Ended outcome limited given end within serves = record {
  input = input;
  given = given;
  answer = inr (input, reads-all job input limit limited within, serves);
  whole = λ short. end;
}

-- more was given than the limit
pub answered-long : (job : Job) (limit : ℕ) (old new : List ℕ) (Ended : Type 0) →
    limit_of job.command ≡ Some limit → GivesCount (limit + 1) old new →
    HasAnswered job old new Ended (Refused (TooLong limit))
answered-long job limit old new Ended limited past = record {
  input = past.0;
  given = past.1;
  answer =
      inl (TooLong limit, refl, refuses-long job past.0 limit limited (omega (arith, past.2)));
  whole = λ short. absurd (omega (arith, past.2, is-within job past.0 limit limited short));
}

-- nothing was read, so nothing was given
pub answered-unread : (job : Job) (old : List ℕ) (Ended : Type 0) (outcome : Outcome) →
    limit_of job.command ≡ None → Serves job.command job [] outcome →
    HasAnswered job old old Ended outcome
answered-unread job old Ended outcome unlimited serves = record {
  input = [];
  given = sym (append-nil old);
  answer = inr ([], reads-nothing job [] unlimited, serves);
  whole = λ short. absurd (not-whole job [] unlimited short);
}

-- what was answered to the job was served to it
served-to : (job : Job) (old new : List ℕ) (Ended : Type 0) (outcome : Outcome)
    (answered : HasAnswered job old new Ended outcome) → IsServed job (Some answered.input) outcome
served-to job old new Ended outcome answered = record {
  input = answered.input;
  given = refl;
  answer = answered.answer;
}

-- ---- the words

-- They ask for one job.
module _ (words : List (List ℕ)) (job : Job) (old new : List ℕ) (Ended : Type 0)
    (outcome : Outcome) (asked : AskFor words job)
    (only : (other : Job) → AskFor words other → other ≡ job)
    (answered : HasAnswered job old new Ended outcome) where
  pub served-whole-of : IsServedWhole words answered.input Ended (Answered outcome)
  served-whole-of = record {
    right = (job, asked, served-to job old new Ended outcome answered);
    agree = λ other right.
        right-agree words job (Some answered.input) only outcome other asked refl
        (served-to job old new Ended outcome answered) right;
    whole = λ read. answered.whole (subst
        (λ (j : Job). ReadsWhole (limit_of j.command) answered.input)
        (only read.job read.asked) read.within);
  }

  -- it isn't feasible where the budget is enough for what was given
  pub enough-given : (status : ℕ) → (status ≢ WRITE_FAULT → status ≡ told.status_of outcome) →
      (input : List ℕ) → new ≡ old ++ input → HasEnough words input → status ≢ FEASIBLE
  enough-given status is input given enough =
      let same : answered.input ≡ input =
      append_cancel_left old answered.input input (sym answered.given ∙ given) in
      enough-served words job (Some answered.input) only outcome status
      (served-to job old new Ended outcome answered) is
      (subst (λ bytes. HasEnough words bytes) (sym same) enough)

-- They ask for none.
pub served-none : (words : List (List ℕ)) (Ended : Type 0) →
    ((job : Job) → AskFor words job → ⊥) → IsServedWhole words [] Ended WrongWords
served-none words Ended none = record {
  right = none;
  agree = wrong-agree words (Some []) none;
  whole = λ read. absurd (none read.job read.asked);
}
