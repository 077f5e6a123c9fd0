-- The options. Their ranges and defaults, and the commands that they may stand with, are those of
-- the rules that the program reads by.
use Rattle.std.specs.Prelude.{ℕ, List, Bool, true, false, codes}
use Rattle.std.specs.Str.{bytes_eq}
use Rattle.job_words.specs.declared.command.Command.{Command}
use Rattle.job_words.specs.declared.command.Command.TheVariants.{Solve, Prove, Check, Verify}
use Rattle.job_words.specs.declared.command.Command.TheVariants.{Replay, Drill}
use Rattle.job_words.specs.declared.option.Rule.{Rule}
use Rattle.job_words.specs.declared.option.Scope.{Scope}
use Rattle.job_words.specs.declared.option.Scope.TheVariants.{Every, Searching, Drilling}
use Rattle.job_words.specs.declared.option.Setting.{Setting}
use Rattle.job_words.specs.declared.option.Setting.TheVariants.{Workers, Nodes, Colours}
use Rattle.job_words.specs.declared.option.Setting.TheVariants.{Moves, Seed, Orders}
use Rattle.job_words.specs.declared.option.TheConstants.{WORKERS, NODES, COLOURS}
use Rattle.job_words.specs.declared.option.TheConstants.{MOVES, SEED, ORDERS}

-- the rule of each option
abbrev pub rule_of : Setting → Rule
rule_of Workers = WORKERS
rule_of Nodes = NODES
rule_of Colours = COLOURS
rule_of Moves = MOVES
rule_of Seed = SEED
rule_of Orders = ORDERS

-- the name of an option, by what it sets
abbrev pub name_of : Setting → List ℕ
name_of Workers = codes "--workers"
name_of Nodes = codes "--nodes"
name_of Colours = codes "--colours"
name_of Moves = codes "--moves"
name_of Seed = codes "--seed"
name_of Orders = codes "--orders"

-- the least number of an option, the greatest, and the one where none is given
abbrev pub least : Setting → ℕ
least setting = (rule_of setting).least

abbrev pub greatest : Setting → ℕ
greatest setting = (rule_of setting).greatest

abbrev pub default : Setting → ℕ
default setting = (rule_of setting).default

-- whether a command searches
abbrev pub searches : Command → Bool
searches Solve = true
searches Prove = true
searches Check = false
searches Verify = false
searches Replay = true
searches Drill = true

-- whether it makes the instance that it searches
abbrev pub drills : Command → Bool
drills Drill = true
drills command = false

-- whether a command is among those of a scope
abbrev pub is_in : Scope → Command → Bool
is_in Every command = true
is_in Searching command = searches command
is_in Drilling command = drills command

-- whether an option may stand with a command
abbrev pub allows : Command → Setting → Bool
allows command setting = is_in (rule_of setting).scope command

-- settings are told apart by the names of their options
abbrev pub same_setting : Setting → Setting → Bool
same_setting s t = bytes_eq (name_of s) (name_of t)
