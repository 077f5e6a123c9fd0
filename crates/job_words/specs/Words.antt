-- The words after the program's name, and the jobs that they ask for.
use Rattle.std.specs.Prelude.{◌≡◌, ℕ, ◌+◌, ◌<◌, ◌≤◌, true, List, [], ◌∷◌, ◌++◌}
use Rattle.std.specs.Prelude.{length, take, map, codes, Option, Some, None, cond, String}
use Rattle.std.specs.Prelude.{string_bytes}
use Rattle.std.specs.List.{AllByRecursion}
use Rattle.std.specs.Str.Parse.{IsNumeral, digits_value}
use Rattle.std.specs.declared.alloc.Global.{Global}
use Rattle.job_words.specs.declared.command.Command.{Command}
use Rattle.job_words.specs.declared.command.Command.TheVariants.{Solve, Prove, Check, Verify}
use Rattle.job_words.specs.declared.command.Command.TheVariants.{Replay, Drill}
use Rattle.job_words.specs.declared.option.Setting.{Setting}
use Rattle.job_words.specs.declared.option.Setting.TheVariants.{Workers, Nodes, Colours}
use Rattle.job_words.specs.declared.option.Setting.TheVariants.{Moves, Seed, Orders}
use Rattle.job_words.specs.declared.job.Job.{Job}
use Rattle.job_words.specs.Options.{name_of, least, greatest, default, allows, same_setting}

-- the bytes of each word
abbrev pub texts : List (String Global) → List (List ℕ)
texts words = map (λ word. string_bytes word) words

-- how a command is spelt
abbrev pub spelling : Command → List ℕ
spelling Solve = codes "solve"
spelling Prove = codes "prove"
spelling Check = codes "check"
spelling Verify = codes "verify"
spelling Replay = codes "replay"
spelling Drill = codes "drill"

-- how many bytes a command's input may have; one that reads nothing has no limit
abbrev pub limit_of : Command → Option ℕ
limit_of Solve = Some 4194304
limit_of Prove = Some 4194304
limit_of Check = Some 268435456
limit_of Verify = Some 268435456
limit_of Replay = Some 4194304
limit_of Drill = None

-- an option that is given: what it sets, and the word of its number
pub record Given : Type 0 where
  pub setting : Setting
  pub number : List ℕ

-- the words of options: each has its name and its number
abbrev pub words_of : List Given → List (List ℕ)
words_of [] = []
words_of (option ∷ options) = name_of option.setting ∷ option.number ∷ words_of options

-- the number that is given for a setting, if one is
abbrev pub number_for : Setting → List Given → Option ℕ
number_for setting [] = None
number_for setting (option ∷ options) = cond (same_setting setting option.setting)
    (Some (digits_value 10 option.number)) (number_for setting options)

-- no setting is given twice
abbrev pub AreOnce : List Given → Type 0
AreOnce [] = Unit {0}
AreOnce (option ∷ options) = (number_for option.setting options ≡ None) × AreOnce options

-- the word is one or more digits, and what they stand for is in the range of the option
pub record IsNumberFor (setting : Setting) (word : List ℕ) : Type 0 where
  pub digits : IsNumeral 10 word
  pub low : least setting ≤ digits_value 10 word
  pub high : digits_value 10 word ≤ greatest setting

-- the option may stand with the command, and its number is right
abbrev pub IsRightFor : Command → Given → Type 0
IsRightFor command option =
    (allows command option.setting ≡ true) × IsNumberFor option.setting option.number

-- the words are a command and these options behind it, in any order, each at most once
pub record Spell (words : List (List ℕ)) (command : Command) (options : List Given) : Type 0 where
  pub are : words ≡ spelling command ∷ words_of options
  pub right : AllByRecursion (IsRightFor command) options
  pub once : AreOnce options

-- a number, or the one where none is given
abbrev pub or_default : Setting → Option ℕ → ℕ
or_default setting None = default setting
or_default setting (Some number) = number

-- the number of a setting that options give, or the one where they give none
abbrev pub number_by : List Given → Setting → ℕ
number_by options setting = or_default setting (number_for setting options)

-- the number of a setting in a job
abbrev pub number_in : Job → Setting → ℕ
number_in job Workers = job.limits.workers
number_in job Nodes = job.limits.nodes
number_in job Colours = job.p
number_in job Moves = job.limits.moves
number_in job Seed = job.seed
number_in job Orders = job.orders

-- the words ask for a job: its numbers are those of its options
pub record AskFor (words : List (List ℕ)) (job : Job) : Type 0 where
  pub options : List Given
  pub spell : Spell words job.command options
  pub numbers : (setting : Setting) → number_in job setting ≡ number_by options setting

-- the numbers of a job are in the ranges of its options
abbrev pub IsInRange : Job → Type 0
IsInRange job = (setting : Setting) →
    (least setting ≤ number_in job setting) × (number_in job setting ≤ greatest setting)

-- words for some job begin with these
pub record Begin (words : List (List ℕ)) : Type 0 where
  pub job : Job
  pub more : List (List ℕ)
  pub asked : AskFor (words ++ more) job

-- The first wrong word stands at a place, or a word is missing there: the words before it are how
-- right words begin, and with it they aren't; where none stands there, they ask for nothing.
pub record IsWrongAt (words : List (List ℕ)) (place : ℕ) : Type 0 where
  pub within : place ≤ length words
  pub right : Begin (take place words)
  pub wrong : place < length words → Begin (take (place + 1) words) → ⊥
  pub missing : place ≡ length words → (job : Job) → AskFor words job → ⊥
