-- Where two right outputs agree, and with which statuses a run may end where an output is right.
use Rattle.std.specs.Prelude.{◌≡◌, ◌≤◌, ◌⊎◌, ℕ}
use Rattle.answer_text.specs.declared.answer.Answer.{Answer}
use Rattle.answer_text.specs.declared.answer.Answer.TheVariants.{Optimal, Feasible}
use Rattle.reply_text.specs.Outcome.{status_of_answer}
use Rattle.reply_text.specs.declared.outcome.Outcome.{Outcome}
use Rattle.reply_text.specs.declared.outcome.Outcome.TheVariants.{Solved, Drilled}
use Rattle.reply_text.specs.declared.status.TheConstants.{OPTIMAL, FEASIBLE}
use Rattle.reply_text.specs.declared.summary.Ending.{Ending}
use Rattle.reply_text.specs.declared.summary.Ending.TheVariants as ending
use Rattle.reply_text.specs.declared.summary.Summary.{Summary}
use Rattle.solve_answer.specs.Solved.{AgreeOnAnswers}
use Rattle.slab_top.specs.Served.{Output, Answered, status_of}

-- two endings of a search agree as the answers do that they are of
abbrev pub AgreeOnEndings : Ending → Ending → Type 0
AgreeOnEndings (ending.Optimal loss) (ending.Optimal other) = loss ≡ other
AgreeOnEndings (ending.Optimal loss) (ending.Feasible other spent run) = loss ≤ other
AgreeOnEndings (ending.Feasible loss spent run) (ending.Optimal other) = other ≤ loss
AgreeOnEndings (ending.Feasible loss spent run) (ending.Feasible other closed left) =
    spent ≡ closed

-- two summaries are of one instance, and their endings agree
pub record AgreeOnSummaries (one other : Summary) : Type 0 where
  pub seed : one.seed ≡ other.seed
  pub orders : one.orders ≡ other.orders
  pub weight : one.weight ≡ other.weight
  pub ending : AgreeOnEndings one.ending other.ending

-- two outcomes are one, but for answers and summaries that agree; the runs behind these may be any
abbrev pub AgreeOnOutcomes : Outcome → Outcome → Type 0
AgreeOnOutcomes (Solved one) (Solved other) = AgreeOnAnswers one.answer other.answer
AgreeOnOutcomes (Drilled one) (Drilled other) = AgreeOnSummaries one other
AgreeOnOutcomes outcome other = outcome ≡ other

abbrev pub Agree : Output → Output → Type 0
Agree (Answered outcome) (Answered other) = AgreeOnOutcomes outcome other
Agree output other = output ≡ other

-- A run may end with a status where this output is right for it: with the output's own, and where
-- that is a plan's, with that of an optimal or of a feasible plan.
abbrev pub MayEndWithAnswer : Answer → ℕ → Type 0
MayEndWithAnswer (Optimal loss plan refutation) status =
    (status ≡ OPTIMAL) ⊎ (status ≡ FEASIBLE)
MayEndWithAnswer (Feasible loss plan spent) status = (status ≡ OPTIMAL) ⊎ (status ≡ FEASIBLE)
MayEndWithAnswer answer status = status ≡ status_of_answer answer

abbrev pub MayEndWith : Output → ℕ → Type 0
MayEndWith (Answered (Solved solution)) status = MayEndWithAnswer solution.answer status
MayEndWith (Answered (Drilled summary)) status = (status ≡ OPTIMAL) ⊎ (status ≡ FEASIBLE)
MayEndWith output status = status ≡ status_of output
