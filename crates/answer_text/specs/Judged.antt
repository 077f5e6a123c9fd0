-- What is wrong with lines that are no answer's text. Lines are counted from 1.
use Rattle.std.specs.Prelude.{ℕ, ◌+◌, ◌≡◌, ◌≤◌, ◌⊎◌, List, [], ◌∷◌, ◌++◌, map, length, take, None}
use Rattle.std.specs.Prelude.{Result}
use Rattle.mill_model.specs.Exactly.{ComesExactly}
use Rattle.mill_model.specs.declared.limits.TheConstants.{MAX_NODES}
use Rattle.line_text.specs.Words.{BeginsWith}
use Rattle.refute_log.specs.Text.{first_line}
use Rattle.refute_log.specs.Judged as in_log
use Rattle.refute_log.specs.declared.error.LogTextError.{LogTextError}
use Rattle.refute_log.specs.declared.error.LogTextError.TheVariants as in_log_error
use Rattle.answer_text.specs.declared.answer.Answer.{Answer}
use Rattle.answer_text.specs.declared.answer.Answer.TheVariants.{Optimal}
use Rattle.answer_text.specs.declared.error.AnswerTextError.{AnswerTextError}
use Rattle.answer_text.specs.declared.error.AnswerTextError.TheVariants.{BadLine, NotRising}
use Rattle.answer_text.specs.declared.error.AnswerTextError.TheVariants.{CountDiffers}
use Rattle.answer_text.specs.declared.error.AnswerTextError.TheVariants.{OutOfMemory}
use Rattle.answer_text.specs.Line.{spell, AreWithin}
use Rattle.answer_text.specs.Text.{lines_of, Spells, IsAnswerText}

-- some lines are how an answer's text begins, and the numbers on those before its log are within
-- the limits
pub record Begins (orders : ℕ) (front : List (List ℕ)) : Type 0 where
  pub answer : Answer
  pub more : List (List ℕ)
  pub spells : Spells answer (front ++ more)
  pub within : AreWithin orders (take (length front) (lines_of answer))

-- behind right lines the next line is wrong: no text begins with it too, or it is missing, and the
-- right lines are no text yet
abbrev pub NextIsWrong : ℕ → List (List ℕ) → List (List ℕ) → Type 0
NextIsWrong orders front [] = (answer : Answer) → ¬ (IsAnswerText orders answer front)
NextIsWrong orders front (line ∷ rest) = ¬ (Begins orders (front ++ line ∷ []))

-- behind the right lines of an optimal answer comes the first line of a log
pub record HasLog (orders : ℕ) (lines : List (List ℕ)) : Type 0 where
  pub lost : ℕ
  pub slabs : List ℕ
  pub within : AreWithin orders (lines_of (Optimal lost slabs None))
  pub log : List (List ℕ)
  pub parts : lines ≡ map spell (lines_of (Optimal lost slabs None)) ++ log
  pub stated : ℕ
  pub few : stated ≤ MAX_NODES
  pub begins : BeginsWith log (first_line stated ∷ [])

-- there is no log, and the first line that is wrong has this number
pub record IsBadWithoutLog (orders : ℕ) (lines : List (List ℕ)) (number : ℕ) : Type 0 where
  pub no_log : ¬ (HasLog orders lines)
  pub front : List (List ℕ)
  pub rest : List (List ℕ)
  pub parts : lines ≡ front ++ rest
  pub right : Begins orders front
  pub wrong : NextIsWrong orders front rest
  pub place : number ≡ length front + 1

-- there is a log, and its first line that is wrong is not in the grammar and has this number; the
-- log's first line is the fourth
abbrev pub IsBadInLog : ℕ → List (List ℕ) → ℕ → Type 0
IsBadInLog orders lines number =
    (has : HasLog orders lines) × in_log.IsBadLine orders 4 has.log number

-- the first line that is wrong is not in the grammar and has this number
abbrev pub IsBadLine : ℕ → List (List ℕ) → ℕ → Type 0
IsBadLine orders lines number =
    IsBadWithoutLog orders lines number ⊎ IsBadInLog orders lines number

-- there is a log, and its first line that is wrong is a record's whose path does not come after the
-- one before it
abbrev pub IsNotRising : ℕ → List (List ℕ) → ℕ → Type 0
IsNotRising orders lines number =
    (has : HasLog orders lines) × in_log.IsNotRising orders 4 has.log number

-- each line is right, and the log states another number than it has records
abbrev pub CountIsOther : ℕ → List (List ℕ) → ℕ → ℕ → Type 0
CountIsOther orders lines stated found =
    (has : HasLog orders lines) × in_log.CountIsOther orders has.log stated found

-- the error that tells of an error in a log
abbrev pub error_in_log : LogTextError → AnswerTextError
error_in_log (in_log_error.BadLine number) = BadLine number
error_in_log (in_log_error.NotRising number) = NotRising number
error_in_log (in_log_error.CountDiffers stated found) = CountDiffers stated found
error_in_log in_log_error.OutOfMemory = OutOfMemory

-- what an error of the reader says of the lines
abbrev pub IsRefused : ℕ → List (List ℕ) → AnswerTextError → Type 0
IsRefused orders lines (BadLine number) = IsBadLine orders lines number
IsRefused orders lines (NotRising number) = IsNotRising orders lines number
IsRefused orders lines (CountDiffers stated found) = CountIsOther orders lines stated found
IsRefused orders lines OutOfMemory = Unit {0}

-- an answer comes exactly where a fact holds, but for want of memory
abbrev pub ComesWhere : Result Answer AnswerTextError → Result Answer AnswerTextError → Type 0 →
    Type 0
ComesWhere result answer fact = ComesExactly OutOfMemory result answer fact
