-- What the commands read from an input, stage by stage, and for what they refuse it.
use Rattle.std.specs.Prelude.{◌≡◌, ◌≢◌, ℕ, ◌<◌, ◌≤◌, cond, List, [], ◌∷◌, length, drop}
use Rattle.std.specs.Prelude.{Option, Some, None}
use Rattle.mill_model.specs.Instance.{Problem}
use Rattle.line_text.specs.Lines.{is_white, text_lines}
use Rattle.instance_text.specs.Text.{Begins, IsRefused}
use Rattle.instance_text.specs.Words.{IsBlankFrom, IsFirstNotBlank}
use Rattle.instance_text.specs.declared.error.InstanceError.{InstanceError}
use Rattle.answer_text.specs.declared.answer.Answer.{Answer as SomeAnswer}
use Rattle.answer_text.specs.declared.error.AnswerTextError.{AnswerTextError}
use Rattle.answer_text.specs.declared.error.AnswerTextError.TheVariants as error
use Rattle.answer_text.specs.Text.{IsAnswerText}
use Rattle.answer_text.specs.Judged as in_answer
use Rattle.job_words.specs.declared.job.Job.{Job}
use Rattle.job_words.specs.Words.{limit_of}
use Rattle.reply_text.specs.declared.refusal.Refusal.TheVariants.{TooLong, Instance, Rest, Answer}
use Rattle.reply_text.specs.declared.refusal.Refusal.TheVariants.{AnswerKind, Schedule}
use Rattle.schedule_text.specs.Text.{IsScheduleText, IsWrongToken}
use Rattle.judge_answer.specs.Verify.{ProvesNothing}
use Rattle.slab_top.specs.Stage.{Stage, and_then}

-- ---- the length: all of the input, where it is within the limit; of a command without a limit
-- nothing, whatever there is

abbrev pub input_within : Option ℕ → List ℕ → Stage (List ℕ)
input_within None input = record {
  Reads = λ bytes. bytes ≡ [];
  Refuses = λ why. ⊥;
}
input_within (Some limit) input = record {
  Reads = λ bytes. (bytes ≡ input) × (length input ≤ limit);
  Refuses = λ why. (why ≡ TooLong limit) × (limit < length input);
}

abbrev pub whole_input : Job → List ℕ → Stage (List ℕ)
whole_input job = input_within (limit_of job.command)

-- an input is read to its end where it is within the limit, if there is one
abbrev pub ReadsWhole : Option ℕ → List ℕ → Type 0
ReadsWhole None input = ⊥
ReadsWhole (Some limit) input = length input ≤ limit

-- ---- the instance that stands in front, and the place where it ends

pub record Front : Type 0 where
  pub problem : Problem
  pub end : ℕ

abbrev pub front : ℕ → List ℕ → Stage Front
front p bytes = record {
  Reads = λ front. (front.problem.p ≡ p) × Begins bytes front.problem front.end;
  Refuses = λ why. (cause : InstanceError) × (why ≡ Instance cause) × IsRefused bytes cause;
}

-- ---- the rest, where the instance is to stand alone

abbrev pub nothing_behind : List ℕ → Front → Stage Problem
nothing_behind bytes front = record {
  Reads = λ problem. (problem ≡ front.problem) × IsBlankFrom bytes front.end;
  Refuses = λ why. (at : ℕ) × (why ≡ Rest at) × IsFirstNotBlank bytes front.end at;
}

-- ---- the rest, where an answer is to follow

-- bytes from the first on that isn't white space
abbrev pub after_white : List ℕ → List ℕ
after_white [] = []
after_white (byte ∷ bytes) = cond (is_white byte) (after_white bytes) (byte ∷ bytes)

-- the lines behind the instance and white space
abbrev pub lines_behind : List ℕ → ℕ → List (List ℕ)
lines_behind bytes end = text_lines (after_white (drop end bytes))

-- what is wrong with the lines; want of memory isn't
pub record IsWrongAnswer (orders : ℕ) (lines : List (List ℕ)) (cause : AnswerTextError)
    : Type 0 where
  pub of_text : cause ≢ error.OutOfMemory
  pub wrong : in_answer.IsRefused orders lines cause

abbrev pub answer_behind : List ℕ → Front → Stage (Problem × SomeAnswer)
answer_behind bytes front = record {
  Reads = λ read. (read.0 ≡ front.problem)
      × IsAnswerText (length front.problem.orders) read.1 (lines_behind bytes front.end);
  Refuses = λ why. (cause : AnswerTextError) × (why ≡ Answer cause)
      × IsWrongAnswer (length front.problem.orders) (lines_behind bytes front.end) cause;
}

-- ---- the kind: an answer that says something that can be verified

abbrev pub something_proved : Problem × SomeAnswer → Stage (Problem × SomeAnswer)
something_proved given = record {
  Reads = λ read. (read ≡ given) × (ProvesNothing given.1 → ⊥);
  Refuses = λ why. (why ≡ AnswerKind) × ProvesNothing given.1;
}

-- ---- the rest, where a schedule of so many workers is to follow

abbrev pub schedule_behind : ℕ → List ℕ → Front → Stage (Problem × List ℕ)
schedule_behind workers bytes front = record {
  Reads = λ read. (read.0 ≡ front.problem)
      × IsScheduleText workers (after_white (drop front.end bytes)) read.1;
  Refuses = λ why. (token : ℕ) × (why ≡ Schedule token)
      × IsWrongToken workers (after_white (drop front.end bytes)) token;
}

-- ---- what a command reads from an input within its limit

-- an instance that stands alone
abbrev pub instance_alone : ℕ → List ℕ → Stage Problem
instance_alone p bytes = and_then (front p bytes) (nothing_behind bytes)

-- an instance with an answer behind it
abbrev pub instance_with_answer : ℕ → List ℕ → Stage (Problem × SomeAnswer)
instance_with_answer p bytes = and_then (front p bytes) (answer_behind bytes)

-- an instance with an answer behind it that can be verified
abbrev pub instance_with_proof : ℕ → List ℕ → Stage (Problem × SomeAnswer)
instance_with_proof p bytes = and_then (instance_with_answer p bytes) something_proved

-- an instance with a schedule of so many workers behind it
abbrev pub instance_with_schedule : ℕ → ℕ → List ℕ → Stage (Problem × List ℕ)
instance_with_schedule p workers bytes = and_then (front p bytes) (schedule_behind workers bytes)
