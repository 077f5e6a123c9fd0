-- The text of a schedule: the token `schedule`, then the number of a worker for each step.
use Rattle.std.specs.Prelude.{ℕ, ◌+◌, ◌≡◌, ◌≢◌, ◌⊎◌, Bool, true, false, ◌&&◌, List, ◌∷◌, ◌++◌}
use Rattle.std.specs.Prelude.{map, length, codes, ltb}
use Rattle.std.specs.List.{list_all}
use Rattle.line_text.specs.Numbers.{is_digit, value}
use Rattle.instance_text.specs.Words.{words}
use Rattle.schedule_text.specs.declared.error.ScheduleTextError.{ScheduleTextError}
use Rattle.schedule_text.specs.declared.error.ScheduleTextError.TheVariants.{BadToken, OutOfMemory}

-- the tokens of a text: its longest runs of bytes that aren't white space
abbrev pub tokens_of : List ℕ → List (List ℕ)
tokens_of text = map (λ word. word.bytes) (words text)

-- whether a token is the number of one of so many workers, counted from 0
abbrev pub is_worker : ℕ → List ℕ → Bool
is_worker workers token = list_all is_digit token && ltb (value token) workers

-- the text says that these workers take a step, one after the other
pub record IsScheduleText (workers : ℕ) (text schedule : List ℕ) : Type 0 where
  pub numbers : List (List ℕ)
  pub tokens : tokens_of text ≡ codes "schedule" ∷ numbers
  pub of_workers : list_all (is_worker workers) numbers ≡ true
  pub values : map value numbers ≡ schedule

-- the first token isn't `schedule`, or there is none
pub record LacksTheWord (text : List ℕ) (token : ℕ) : Type 0 where
  pub no_word : (numbers : List (List ℕ)) → tokens_of text ≢ codes "schedule" ∷ numbers
  pub place : token ≡ 0

-- a token isn't the number of a worker, where those before it are; they are counted from 1
pub record HasWrongNumber (workers : ℕ) (text : List ℕ) (token : ℕ) : Type 0 where
  pub front : List (List ℕ)
  pub wrong : List ℕ
  pub others : List (List ℕ)
  pub tokens : tokens_of text ≡ codes "schedule" ∷ (front ++ wrong ∷ others)
  pub of_workers : list_all (is_worker workers) front ≡ true
  pub of_none : is_worker workers wrong ≡ false
  pub place : token ≡ length front + 1

-- the first token that is wrong has this number
abbrev pub IsWrongToken : ℕ → List ℕ → ℕ → Type 0
IsWrongToken workers text token = LacksTheWord text token ⊎ HasWrongNumber workers text token

-- a refusal has its cause in the text, but for want of memory
abbrev pub HasCause : ℕ → List ℕ → ScheduleTextError → Type 0
HasCause workers text (BadToken token) = IsWrongToken workers text token
HasCause workers text OutOfMemory = Unit {0}
