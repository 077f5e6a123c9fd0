-- `check`: it reads an instance with an answer, and judges the answer but for its log.
use Rattle.std.specs.Prelude.{ℕ, List}
use Rattle.job_words.specs.declared.job.Job.{Job}
use Rattle.reply_text.specs.declared.outcome.Outcome.{Outcome}
use Rattle.reply_text.specs.declared.outcome.Outcome.TheVariants.{Judged}
use Rattle.judge_answer.specs.Check.{IsSaidOf}
use Rattle.slab_top.specs.Input.{instance_with_answer}
use Rattle.slab_top.specs.Reply.{Replies, Tells}

abbrev pub Checks : Job → List ℕ → Outcome → Type 0
Checks job bytes =
    Replies (instance_with_answer job.p bytes) (λ read. Tells Judged (IsSaidOf read.0 read.1))
