-- `drill`: it reads nothing, makes an instance from a seed, searches it as `solve` does, and sums
-- up what came of it.
use Rattle.std.specs.Prelude.{◌≡◌, ℕ, List, Option, Some, None}
use Rattle.answer_text.specs.declared.answer.Answer.{Answer}
use Rattle.answer_text.specs.declared.answer.Answer.TheVariants as answer
use Rattle.instance_drill.specs.Drilled.{drilled}
use Rattle.job_words.specs.declared.job.Job.{Job}
use Rattle.mill_model.specs.Instance.{Problem}
use Rattle.mill_model.specs.Slab.{load}
use Rattle.refute_log.specs.declared.piece.Run.{Run}
use Rattle.reply_text.specs.declared.outcome.Outcome.{Outcome}
use Rattle.reply_text.specs.declared.outcome.Outcome.TheVariants.{Drilled}
use Rattle.reply_text.specs.declared.solution.Solution.{Solution}
use Rattle.reply_text.specs.declared.summary.Ending.{Ending}
use Rattle.reply_text.specs.declared.summary.Ending.TheVariants.{Optimal, Feasible}
use Rattle.reply_text.specs.declared.summary.Summary.{Summary}
use Rattle.solve_answer.specs.Solved.{IsSolved}
use Rattle.slab_top.specs.Reply.{Tells}
use Rattle.slab_top.specs.Threads.{course_of}

-- the instance that a job makes
abbrev pub made_by : Job → Problem
made_by job = drilled job.seed job.orders job.p

-- What an answer says of the search behind it, but for the plan, with the run that is handed out.
-- There is no ending where no plan is legal.
abbrev pub IsEndingOf : Answer → Option Run → Ending → Type 0
IsEndingOf (answer.Optimal loss plan refutation) run ending = ending ≡ Optimal loss
IsEndingOf (answer.Feasible loss plan spent) None ending = ⊥
IsEndingOf (answer.Feasible loss plan spent) (Some run) ending = ending ≡ Feasible loss spent run
IsEndingOf (answer.Infeasible order) run ending = ⊥

-- A summary is that of a job: it tells the seed, the orders and the weight of the instance that the
-- job makes, and how a search of this instance ended.
pub record IsSummary (job : Job) (summary : Summary) : Type 0 where
  pub seed : summary.seed ≡ job.seed
  pub orders : summary.orders ≡ job.orders
  pub weight : summary.weight ≡ load (made_by job).orders
  pub solution : Solution
  pub solved : IsSolved job.limits (course_of job.limits) (made_by job) solution
  pub ending : IsEndingOf solution.answer solution.run summary.ending

abbrev pub Drills : Job → Outcome → Type 0
Drills job = Tells Drilled (IsSummary job)
