-- The job that is made of the numbers that were read.
use Rattle.std.proofs.Common.{◌≡◌, ◌≤◌, ℕ, List, subst, sym, ◌∙◌, ap}
use Rattle.job_words.specs.declared.command.Command.{Command}
use Rattle.job_words.specs.declared.job.Job.{Job}
use Rattle.job_words.specs.declared.numbers.Numbers.{Numbers}
use Rattle.job_words.specs.declared.option.Setting.{Setting}
use Rattle.job_words.specs.declared.option.Setting.TheVariants.{Workers, Nodes, Colours}
use Rattle.job_words.specs.declared.option.Setting.TheVariants.{Moves, Seed, Orders}
use Rattle.job_words.specs.Options.{greatest}
use Rattle.job_words.specs.Reading.{HasRead, held_for}
use Rattle.job_words.specs.Words.{number_in, or_default, AskFor}
use Rattle.job_words.proofs.Grammar.{in-range}

-- the number that was read for a setting, or its default
abbrev pub number_read : Numbers → Setting → ℕ
number_read numbers s = or_default s (held_for s numbers)

-- it is in its range
pub read-in-range : (c : Command) (words : List (List ℕ)) (numbers : Numbers) →
    HasRead c words numbers → (s : Setting) (n : ℕ) → n ≡ number_read numbers s → n ≤ greatest s
read-in-range c words numbers read s n is =
    subst (λ m. m ≤ greatest s) (sym (is ∙ ap (or_default s) (read.held s)))
    (in-range s c read.options read.spell.right).1

-- the job with these numbers is asked for
pub read-job : (words : List (List ℕ)) (job : Job) (numbers : Numbers) →
    HasRead job.command words numbers → job.limits.workers ≡ number_read numbers Workers →
    job.limits.nodes ≡ number_read numbers Nodes → job.p ≡ number_read numbers Colours →
    job.limits.moves ≡ number_read numbers Moves → job.seed ≡ number_read numbers Seed →
    job.orders ≡ number_read numbers Orders → AskFor words job
read-job words job numbers read workers nodes colours moves seed orders = record {
  options = read.options;
  spell = read.spell;
  numbers = λ s. are s ∙ ap (or_default s) (read.held s);
}
  where
    are : (s : Setting) → number_in job s ≡ number_read numbers s
    are Workers = workers
    are Nodes = nodes
    are Colours = colours
    are Moves = moves
    are Seed = seed
    are Orders = orders
