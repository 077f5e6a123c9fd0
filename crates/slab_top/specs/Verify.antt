-- `verify`: it reads an instance with an answer that can be verified, and judges that and its log.
use Rattle.std.specs.Prelude.{ℕ, List}
use Rattle.job_words.specs.declared.job.Job.{Job}
use Rattle.reply_text.specs.declared.outcome.Outcome.{Outcome}
use Rattle.reply_text.specs.declared.outcome.Outcome.TheVariants.{Judged}
use Rattle.judge_answer.specs.Verify.{IsVerdictOn}
use Rattle.slab_top.specs.Input.{instance_with_proof}
use Rattle.slab_top.specs.Reply.{Replies, Tells}

abbrev pub Verifies : Job → List ℕ → Outcome → Type 0
Verifies job bytes =
    Replies (instance_with_proof job.p bytes) (λ read. Tells Judged (IsVerdictOn read.0 read.1))
