-- What `check` says of an answer, and where.
use Rattle.std.specs.Prelude.{◌≡◌, ◌≢◌, ℕ, List, Some}
use Rattle.mill_model.specs.Instance.{Problem, mill_of, loss_charge}
use Rattle.plan_check.specs.Verdicts.{IsHeavy, IsColourful}
use Rattle.mill_model.specs.Plan.{IsPlanWithLoss}
use Rattle.answer_text.specs.declared.answer.Answer.{Answer}
use Rattle.answer_text.specs.declared.answer.Answer.TheVariants.{Optimal, Feasible, Infeasible}
use Rattle.reply_text.specs.declared.judgement.Judgement.{Judgement}
use Rattle.reply_text.specs.declared.judgement.Judgement.TheVariants.{Legal, Confirmed, Heavy}
use Rattle.reply_text.specs.declared.judgement.Judgement.TheVariants.{Colourful, LossDiffers}
use Rattle.reply_text.specs.declared.judgement.Judgement.TheVariants.{OrderDiffers}
use Rattle.mill_model.specs.Heavy.{IsFirstHeavy, IsFirstHeavyIfAny}

-- a plan is legal and loses so much
abbrev pub IsLegalWith : Problem → List ℕ → ℕ → Type 0
IsLegalWith problem plan loss =
    IsPlanWithLoss (mill_of problem) (loss_charge problem.sizes) problem.orders plan loss

-- what is said of a plan that is stated to lose so much: first of the plan, then of the loss
abbrev pub IsSaidOfPlan : Problem → ℕ → List ℕ → Judgement → Type 0
IsSaidOfPlan problem stated plan (Legal loss) = IsLegalWith problem plan loss × (stated ≡ loss)
IsSaidOfPlan problem stated plan (LossDiffers said found) =
    IsLegalWith problem plan found × (said ≡ stated) × (stated ≢ found)
IsSaidOfPlan problem stated plan (Heavy slab load) =
    IsHeavy (mill_of problem) problem.orders plan slab load
IsSaidOfPlan problem stated plan (Colourful slab colours) =
    IsColourful (mill_of problem) problem.orders plan slab colours
IsSaidOfPlan problem stated plan judgement = ⊥

-- what is said of an order that is stated to be the first that no slab holds
abbrev pub IsSaidOfOrder : Problem → ℕ → Judgement → Type 0
IsSaidOfOrder problem stated (Confirmed order) = IsFirstHeavy problem order × (stated ≡ order)
IsSaidOfOrder problem stated (OrderDiffers said found) =
    IsFirstHeavyIfAny problem found × (said ≡ stated) × (found ≢ Some stated)
IsSaidOfOrder problem stated judgement = ⊥

-- what `check` says of an answer; it ignores a log
abbrev pub IsSaidOf : Problem → Answer → Judgement → Type 0
IsSaidOf problem (Optimal loss plan refutation) judgement = IsSaidOfPlan problem loss plan judgement
IsSaidOf problem (Feasible loss plan spent) judgement = IsSaidOfPlan problem loss plan judgement
IsSaidOf problem (Infeasible order) judgement = IsSaidOfOrder problem order judgement
