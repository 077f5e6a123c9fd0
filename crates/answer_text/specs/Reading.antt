-- The reader of an answer, line by line.
use Rattle.std.specs.Prelude.{ℕ, ◌+◌, ◌≡◌, ◌⊎◌, true, List, [], ◌∷◌, Some, Err}
use Rattle.line_text.specs.Lines.{is_end, first_filled}
use Rattle.line_text.specs.Words.{BeginsWith}
use Rattle.refute_log.specs.Judged as in_log
use Rattle.refute_log.specs.declared.error.LogTextError.{LogTextError}
use Rattle.answer_text.specs.declared.error.AnswerTextError.{AnswerTextError}
use Rattle.answer_text.specs.declared.error.AnswerTextError.TheVariants.{BadLine, NotRising}
use Rattle.answer_text.specs.declared.error.AnswerTextError.TheVariants.{CountDiffers}
use Rattle.answer_text.specs.declared.error.AnswerTextError.TheVariants.{OutOfMemory}
use Rattle.answer_text.specs.Line.{Line, spell, IsWithin}
use Rattle.answer_text.specs.Judged.{error_in_log}

-- for how many orders the answer is, how many lines were read, and the lines that are still to be
-- read
pub record Reading : Type 0 where
  pub orders : ℕ
  pub read : ℕ
  pub rest : List (List ℕ)

-- the next line was read
pub record IsNext (old : Reading) (line : List ℕ) (new : Reading) : Type 0 where
  pub text : old.rest ≡ line ∷ new.rest
  pub read : new.read ≡ old.read + 1
  pub orders : new.orders ≡ old.orders

-- the next line was this one, which is within the limits, and it was read
pub record Reads (old : Reading) (line : Line) (new : Reading) : Type 0 where
  pub next : IsNext old (spell line) new
  pub within : IsWithin old.orders line

-- none of these lines comes next
abbrev pub LacksAll : {X : Type 0} → (X → Line) → ℕ → List (List ℕ) → Type 0
LacksAll {X} line orders rest =
    (x : X) → IsWithin orders (line x) → ¬ (BeginsWith rest (spell (line x) ∷ []))

-- an error of a reader of one of these lines: the next line is none of them
abbrev pub Refuses : {X : Type 0} → (X → Line) → Reading → AnswerTextError → Type 0
Refuses line old (BadLine number) = (number ≡ old.read + 1) × LacksAll line old.orders old.rest
Refuses line old (NotRising number) = ⊥
Refuses line old (CountDiffers stated found) = ⊥
Refuses line old OutOfMemory = Unit {0}

-- `end` does not come next
abbrev pub LacksEnd : List (List ℕ) → Type 0
LacksEnd rest =
    (end_line : List ℕ) → is_end end_line ≡ true → ¬ (BeginsWith rest (end_line ∷ []))

-- behind `end` a line has more than white space; places are counted from 1
pub record HasMore (rest : List (List ℕ)) (place : ℕ) : Type 0 where
  pub end_line : List ℕ
  pub after : List (List ℕ)
  pub behind : ℕ
  pub text : rest ≡ end_line ∷ after
  pub ended : is_end end_line ≡ true
  pub filled : first_filled after ≡ Some behind
  pub is : place ≡ behind + 2

-- where the end of a text is wrong
abbrev pub IsBadEnding : List (List ℕ) → ℕ → Type 0
IsBadEnding rest place = (LacksEnd rest × (place ≡ 1)) ⊎ HasMore rest place

-- an error of the reader of `end` and what stands behind it
abbrev pub RefusesEnding : Reading → AnswerTextError → Type 0
RefusesEnding old (BadLine number) =
    (place : ℕ) × (number ≡ old.read + place) × IsBadEnding old.rest place
RefusesEnding old (NotRising number) = ⊥
RefusesEnding old (CountDiffers stated found) = ⊥
RefusesEnding old OutOfMemory = Unit {0}

-- an error of the reader of a log, where `end` does not come next
pub record RefusesLog (old : Reading) (error : AnswerTextError) : Type 0 where
  pub no_end : LacksEnd old.rest
  pub cause : LogTextError
  pub says : in_log.Says old.orders (old.read + 1) old.rest (Err cause)
  pub is : error ≡ error_in_log cause

-- an error of the reader of what stands behind the plan of an optimal answer
abbrev pub RefusesRefutation : Reading → AnswerTextError → Type 0
RefusesRefutation old error =
    (¬ (LacksEnd old.rest) × RefusesEnding old error) ⊎ RefusesLog old error
