-- How the workers of a job take their turns, and which jobs need threads for that.
use Rattle.std.specs.Prelude.{ℕ, ◌≡◌, ◌<◌, ltb, cond, Bool, true, false, List, []}
use Rattle.mill_model.specs.declared.limits.Limits.{Limits}
use Rattle.job_words.specs.declared.command.Command.{Command}
use Rattle.job_words.specs.declared.command.Command.TheVariants.{Solve, Prove, Drill}
use Rattle.job_words.specs.declared.job.Job.{Job}
use Rattle.job_words.specs.Words.{AskFor}
use Rattle.solve_answer.specs.Course.{Course, Scheduled, Running}

-- one worker makes step after step, by no schedule; more than one run beside each other
abbrev pub course_of : Limits → Course
course_of limits = cond (ltb 1 limits.workers) Running (Scheduled [])

-- whether a command lets its workers run: those of `replay` take turns, as the schedule says
abbrev pub lets_run : Command → Bool
lets_run Solve = true
lets_run Prove = true
lets_run Drill = true
lets_run command = false

-- a job lets more than one worker run
pub record NeedsThreads (job : Job) : Type 0 where
  pub runs : lets_run job.command ≡ true
  pub more : 1 < job.limits.workers

-- words ask for such a job
pub record NeedThreads (words : List (List ℕ)) : Type 0 where
  pub job : Job
  pub asked : AskFor words job
  pub needs : NeedsThreads job
