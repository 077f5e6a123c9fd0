-- `prove`: it reads an instance that stands alone, and answers it with a log.
use Rattle.std.specs.Prelude.{ℕ, List}
use Rattle.job_words.specs.declared.job.Job.{Job}
use Rattle.reply_text.specs.declared.outcome.Outcome.{Outcome}
use Rattle.reply_text.specs.declared.outcome.Outcome.TheVariants.{Solved}
use Rattle.solve_answer.specs.Solved.{IsProved}
use Rattle.slab_top.specs.Input.{instance_alone}
use Rattle.slab_top.specs.Reply.{Replies, Tells}
use Rattle.slab_top.specs.Threads.{course_of}

abbrev pub Proves : Job → List ℕ → Outcome → Type 0
Proves job bytes =
    Replies (instance_alone job.p bytes)
    (λ problem. Tells Solved (IsProved job.limits (course_of job.limits) problem))
