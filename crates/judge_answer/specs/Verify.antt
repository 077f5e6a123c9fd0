-- What `verify` says of an answer, and where.
use Rattle.std.specs.Prelude.{◌≡◌, ℕ, Bool, List, Some, None}
use Rattle.mill_model.specs.Instance.{Problem, mill_of, loss_charge}
use Rattle.mill_model.specs.Plan.{NoneLosesLess}
use Rattle.mill_model.specs.Log.{Task, Refutes, task_of}
use Rattle.mill_model.specs.declared.closing.Entry.{Entry}
use Rattle.log_checker.specs.Verdict.{is_missing, is_stray, is_unsound, is_wrong, IsFirst}
use Rattle.reply_text.specs.declared.judgement.Judgement.{Judgement}
use Rattle.reply_text.specs.declared.judgement.Judgement.TheVariants.{Legal, Verified}
use Rattle.reply_text.specs.declared.judgement.Judgement.TheVariants.{Missing, Stray, Unsound}
use Rattle.answer_text.specs.declared.answer.Answer.{Answer}
use Rattle.answer_text.specs.declared.answer.Answer.TheVariants.{Optimal, Feasible, Infeasible}
use Rattle.judge_answer.specs.Check.{IsLegalWith, IsSaidOfPlan, IsSaidOfOrder}

-- what a log of a problem is judged by: by the loss
abbrev pub loss_task : Problem → Task
loss_task problem = task_of problem (loss_charge problem.sizes)

-- The plan is legal and loses what is stated, and the log refutes this loss. So, by the law on
-- logs, no legal plan loses less.
pub record IsVerified (problem : Problem) (stated : ℕ) (plan : List ℕ) (log : List Entry)
    (loss : ℕ) : Type 0 where
  pub legal : IsLegalWith problem plan loss
  pub is_stated : stated ≡ loss
  pub refuted : Refutes (loss_task problem) loss log
  pub least : NoneLosesLess (mill_of problem) (loss_charge problem.sizes) problem.orders loss

-- The plan is legal and loses what is stated, and this is the first wrong path of the log, in
-- rising order; what is wrong with it is of this kind.
pub record IsFirstFault (problem : Problem) (stated : ℕ) (plan : List ℕ) (log : List Entry)
    (is_kind : List ℕ → Bool) (path : List ℕ) : Type 0 where
  pub legal : IsLegalWith problem plan stated
  pub first : IsFirst is_kind (is_wrong (loss_task problem) stated log) path

-- what is said of a plan, its stated loss and a log, in this order
abbrev pub IsSaidOfProof : Problem → ℕ → List ℕ → List Entry → Judgement → Type 0
IsSaidOfProof problem stated plan log (Verified loss) = IsVerified problem stated plan log loss
IsSaidOfProof problem stated plan log (Missing path) =
    IsFirstFault problem stated plan log (is_missing (loss_task problem) log) path
IsSaidOfProof problem stated plan log (Stray path) =
    IsFirstFault problem stated plan log (is_stray (loss_task problem) log) path
IsSaidOfProof problem stated plan log (Unsound path) =
    IsFirstFault problem stated plan log (is_unsound (loss_task problem) stated log) path
IsSaidOfProof problem stated plan log (Legal loss) = ⊥
IsSaidOfProof problem stated plan log judgement = IsSaidOfPlan problem stated plan judgement

-- what `verify` says of an answer
abbrev pub IsVerdictOn : Problem → Answer → Judgement → Type 0
IsVerdictOn problem (Optimal loss plan (Some log)) judgement =
    IsSaidOfProof problem loss plan log.entries judgement
IsVerdictOn problem (Optimal loss plan None) judgement = ⊥
IsVerdictOn problem (Feasible loss plan spent) judgement = ⊥
IsVerdictOn problem (Infeasible order) judgement = IsSaidOfOrder problem order judgement

-- the answer has a plan and no log, so it says nothing that can be verified
abbrev pub ProvesNothing : Answer → Type 0
ProvesNothing (Optimal loss plan (Some log)) = ⊥
ProvesNothing (Optimal loss plan None) = Unit {0}
ProvesNothing (Feasible loss plan spent) = Unit {0}
ProvesNothing (Infeasible order) = ⊥
