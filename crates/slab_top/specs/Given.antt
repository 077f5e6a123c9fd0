-- What is right for the bytes that the reads of a call gave.
use Rattle.std.specs.Prelude.{◌≡◌, ◌++◌, ℕ, List, Some}
use Rattle.job_words.specs.declared.job.Job.{Job}
use Rattle.job_words.specs.Words.{limit_of}
use Rattle.reply_text.specs.declared.outcome.Outcome.{Outcome}
use Rattle.slab_top.specs.Input.{ReadsWhole}
use Rattle.slab_top.specs.Served.{IsAnswer, IsRight, Output}
use Rattle.slab_top.specs.Agree.{Agree}
use Rattle.slab_top.specs.Run.{IsToBeRead}

-- The outcome is what a job answers to the bytes that were given since, which are the whole input,
-- as its end was found, or too many, or none where the job reads none.
pub record HasAnswered (job : Job) (given_old given_new : List ℕ) (ended : Type 0)
    (outcome : Outcome) : Type 0 where
  pub input : List ℕ
  pub given : given_new ≡ given_old ++ input
  pub answer : IsAnswer job input outcome
  pub whole : ReadsWhole (limit_of job.command) input → ended

-- The output is right for words and these bytes, and each other that is right agrees with it. The
-- bytes are the whole input, as its end was found, or too many, or the words ask for none.
pub record IsServedWhole (words : List (List ℕ)) (input : List ℕ) (ended : Type 0)
    (output : Output) : Type 0 where
  pub right : IsRight words (Some input) output
  pub agree : (other : Output) → IsRight words (Some input) other → Agree output other
  pub whole : IsToBeRead words input → ended
