-- The reader of words.
use Rattle.std.specs.Prelude.{ℕ, ◌≡◌, List, Option}
use Rattle.job_words.specs.declared.command.Command.{Command}
use Rattle.job_words.specs.declared.option.Setting.{Setting}
use Rattle.job_words.specs.declared.option.Setting.TheVariants.{Workers, Nodes, Colours}
use Rattle.job_words.specs.declared.option.Setting.TheVariants.{Moves, Seed, Orders}
use Rattle.job_words.specs.declared.numbers.Numbers.{Numbers}
use Rattle.job_words.specs.Words.{Given, Spell, number_for}

-- the number that is held for a setting
abbrev pub held_for : Setting → Numbers → Option ℕ
held_for Workers numbers = numbers.workers
held_for Nodes numbers = numbers.nodes
held_for Colours numbers = numbers.colours
held_for Moves numbers = numbers.moves
held_for Seed numbers = numbers.seed
held_for Orders numbers = numbers.orders

-- the words were read: they are a command and options, and these are their numbers
pub record HasRead (command : Command) (words : List (List ℕ)) (numbers : Numbers) : Type 0 where
  pub options : List Given
  pub spell : Spell words command options
  pub held : (setting : Setting) → held_for setting numbers ≡ number_for setting options
