-- Both halves of the program, one after the other: what `solve` or `prove` printed is given to
-- `check` or `verify`, behind the bytes that were read and one line feed.
use Rattle.std.specs.Prelude.{◌≡◌, ◌↔◌, ℕ, List, ◌∷◌, ◌++◌, Some}
use Rattle.answer_text.specs.declared.answer.Answer.{Answer}
use Rattle.answer_text.specs.declared.answer.Answer.TheVariants.{Optimal, Feasible, Infeasible}
use Rattle.answer_text.specs.Text.{answer_text}
use Rattle.job_words.specs.declared.command.Command.{Command}
use Rattle.job_words.specs.declared.job.Job.{Job}
use Rattle.job_words.specs.Words.{AskFor, limit_of}
use Rattle.reply_text.specs.declared.judgement.Judgement.TheVariants.{Legal, Verified, Confirmed}
use Rattle.reply_text.specs.declared.outcome.Outcome.{Outcome}
use Rattle.reply_text.specs.declared.outcome.Outcome.TheVariants.{Refused, Solved, Judged}
use Rattle.reply_text.specs.declared.refusal.Refusal.TheVariants.{AnswerKind}
use Rattle.reply_text.specs.declared.solution.Solution.{Solution}
use Rattle.slab_top.specs.Input.{ReadsWhole}
use Rattle.slab_top.specs.Served.{IsAnswer, IsRight, Output, Answered}

-- the bytes that were read, one line feed, and what was printed
abbrev pub with_printed : List ℕ → Answer → List ℕ
with_printed input answer = input ++ 10 ∷ answer_text answer

-- what `verify` answers to what `prove` printed; a feasible plan has no log
abbrev pub verified_as : Answer → Outcome
verified_as (Optimal loss plan log) = Judged (Verified loss)
verified_as (Feasible loss plan spent) = Refused AnswerKind
verified_as (Infeasible order) = Judged (Confirmed order)

-- what `check` answers to what `solve` or `prove` printed
abbrev pub checked_as : Answer → Outcome
checked_as (Optimal loss plan log) = Judged (Legal loss)
checked_as (Feasible loss plan spent) = Judged (Legal loss)
checked_as (Infeasible order) = Judged (Confirmed order)

-- ---- two jobs

-- this outcome is right for a job and these bytes, and no other is
abbrev pub IsOnlyAnswer : Job → List ℕ → Outcome → Type 0
IsOnlyAnswer job bytes outcome = (other : Outcome) → IsAnswer job bytes other ↔ (other ≡ outcome)

-- This answer to an input is right for the first job. It is given on to the second job, which has
-- the same colours and takes that many bytes.
pub record IsGivenOn (first second : Job) (input : List ℕ) (solution : Solution) : Type 0 where
  pub answered : IsAnswer first input (Solved solution)
  pub colours : second.p ≡ first.p
  pub short : ReadsWhole (limit_of second.command) (with_printed input solution.answer)

-- each answer of a job of one command, given on to a job of another one, has this one right outcome
abbrev pub IsAnsweredBehind : Command → Command → (Answer → Outcome) → Type 0
IsAnsweredBehind search judge outcome_for =
    (first second : Job) (input : List ℕ) (solution : Solution) → first.command ≡ search →
    second.command ≡ judge → IsGivenOn first second input solution →
    IsOnlyAnswer second (with_printed input solution.answer) (outcome_for solution.answer)

-- ---- two runs

-- words ask for a command with so many colours
pub record AskForCommand (words : List (List ℕ)) (command : Command) (p : ℕ) : Type 0 where
  pub job : Job
  pub asked : AskFor words job
  pub command_is : job.command ≡ command
  pub colours : job.p ≡ p

-- this outcome is right for words and these bytes, and no other output is
abbrev pub IsOnlyRight : List (List ℕ) → List ℕ → Outcome → Type 0
IsOnlyRight words bytes outcome =
    (output : Output) → IsRight words (Some bytes) output ↔ (output ≡ Answered outcome)

-- The same of two runs, whose words ask for these commands with the same colours: what the first
-- one may print has, given on to the second, this one right output.
abbrev pub IsRightBehind : Command → Command → (Answer → Outcome) → Type 0
IsRightBehind search judge outcome_for =
    (first second : List (List ℕ)) (p : ℕ) (input : List ℕ) (solution : Solution) →
    AskForCommand first search p → AskForCommand second judge p →
    IsRight first (Some input) (Answered (Solved solution)) →
    ReadsWhole (limit_of judge) (with_printed input solution.answer) →
    IsOnlyRight second (with_printed input solution.answer) (outcome_for solution.answer)
