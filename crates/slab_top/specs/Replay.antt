-- `replay`: it reads an instance with a schedule, and answers as `prove` does by this schedule.
use Rattle.std.specs.Prelude.{ℕ, List}
use Rattle.job_words.specs.declared.job.Job.{Job}
use Rattle.reply_text.specs.declared.outcome.Outcome.{Outcome}
use Rattle.reply_text.specs.declared.outcome.Outcome.TheVariants.{Solved}
use Rattle.solve_answer.specs.Course.{Scheduled}
use Rattle.solve_answer.specs.Solved.{IsProved}
use Rattle.slab_top.specs.Input.{instance_with_schedule}
use Rattle.slab_top.specs.Reply.{Replies, Tells}

abbrev pub Replays : Job → List ℕ → Outcome → Type 0
Replays job bytes =
    Replies (instance_with_schedule job.p job.limits.workers bytes)
    (λ read. Tells Solved (IsProved job.limits (Scheduled read.1) read.0))
