-- What is said of an answer is one thing. It is what a verdict says: the one on the plan, then
-- where that is as stated the one on the log; or where the answer is an order, the first heavy one.
use Rattle.std.proofs.Common.{◌≡◌, ◌≢◌, ℕ, Bool, true, false, cond, eqb, List}
use Rattle.std.proofs.Common.{refl, sym, ap, ◌∙◌, ◌⊎◌, subst, inl, inr, eqb-true, eq-eqb}
use Rattle.std.specs.Prelude.{Option, Some, None}
use Rattle.mill_model.specs.Instance.{Problem}
use Rattle.mill_model.specs.declared.closing.Entry.{Entry}
use Rattle.plan_check.specs.declared.verdict.Verdict.TheVariants as verdict
use Rattle.log_checker.specs.Verdict.{IsVerdict}
use Rattle.log_checker.specs.declared.verdict.LogVerdict.{LogVerdict}
use Rattle.log_checker.specs.declared.verdict.LogVerdict.TheVariants as log_verdict
use Rattle.log_checker.proofs.Unique.{verdict-unique}
use Rattle.answer_text.specs.declared.answer.Answer.{Answer}
use Rattle.answer_text.specs.declared.answer.Answer.TheVariants.{Optimal, Feasible, Infeasible}
use Rattle.reply_text.specs.declared.judgement.Judgement.{Judgement}
use Rattle.reply_text.specs.declared.judgement.Judgement.TheVariants.{Confirmed, OrderDiffers}
use Rattle.reply_text.specs.declared.judgement.Judgement.TheVariants.{Legal, Verified, Missing}
use Rattle.reply_text.specs.declared.judgement.Judgement.TheVariants.{Stray, Unsound}
use Rattle.mill_model.specs.Heavy.{IsFirstHeavyIfAny}
use Rattle.instance_facts.proofs.HeavyOnce.{any-once}
use Rattle.judge_answer.specs.Check.{IsSaidOfPlan, IsSaidOfOrder, IsSaidOf}
use Rattle.judge_answer.specs.Verify.{loss_task, IsSaidOfProof, IsVerdictOn, ProvesNothing}
use Rattle.judge_answer.proofs.PlanSaid.{IsRight, plan-once}

-- ---- an order

-- what is said where this is the first order that no slab holds, and another may be stated
abbrev said_of_first : ℕ → Option ℕ → Judgement
said_of_first stated None = OrderDiffers stated None
said_of_first stated (Some order) =
    cond (eqb stated order) (Confirmed order) (OrderDiffers stated (Some order))

differs : (stated : ℕ) (found : Option ℕ) → found ≢ Some stated →
    said_of_first stated found ≡ OrderDiffers stated found
differs stated None other = refl
differs stated (Some order) other = by_test (eqb stated order) refl
  where
    by_test : (b : Bool) → b ≡ eqb stated order →
        cond b (Confirmed order) (OrderDiffers stated (Some order))
        ≡ OrderDiffers stated (Some order)
    by_test true is = absurd (other (ap Some (sym (eqb-true stated order (sym is)))))
    by_test false is = refl

order-known : (problem : Problem) (stated : ℕ) (a : Judgement) → IsSaidOfOrder problem stated a →
    (first : Option ℕ) × IsFirstHeavyIfAny problem first × (said_of_first stated first ≡ a)
order-known problem stated (Confirmed order) said =
    (Some order, said.0, rw (eq-eqb stated order said.1) refl)
order-known problem stated (OrderDiffers other found) said =
    (found, said.0, differs stated found said.2 ∙ ap (λ s. OrderDiffers s found) (sym said.1))
order-known problem stated a said = absurd said

order-once : (problem : Problem) (stated : ℕ) (a b : Judgement) →
    IsSaidOfOrder problem stated a → IsSaidOfOrder problem stated b → a ≡ b
order-once problem stated a b said other =
    let one = order-known problem stated a said in
    let two = order-known problem stated b other in
    sym one.2 ∙ ap (said_of_first stated) (any-once problem one.0 two.0 one.1 two.1) ∙ two.2

-- ---- a plan and its log

-- what a verdict on the log says
abbrev judged_by : ℕ → LogVerdict → Judgement
judged_by stated log_verdict.Refutes = Verified stated
judged_by stated (log_verdict.Missing path) = Missing path
judged_by stated (log_verdict.Stray path) = Stray path
judged_by stated (log_verdict.Unsound path) = Unsound path

module _ (problem : Problem) (stated : ℕ) (plan : List ℕ) (log : List Entry) where
  -- this is said of the plan, which isn't as stated,
  record OfPlan (a : Judgement) : Type 0 where
    said : IsSaidOfPlan problem stated plan a
    other : (loss : ℕ) → a ≢ Legal loss

  -- or of the log, since the plan is as stated
  record OfLog (a : Judgement) : Type 0 where
    verdict_on_log : LogVerdict
    legal : IsRight problem plan (verdict.Legal stated)
    right : IsVerdict (loss_task problem) stated log verdict_on_log
    is : judged_by stated verdict_on_log ≡ a

  proof-known : (a : Judgement) → IsSaidOfProof problem stated plan log a → OfPlan a ⊎ OfLog a
  proof-known (Legal loss) said = absurd said
  proof-known (Verified loss) said =
      inr (record {
        verdict_on_log = log_verdict.Refutes;
        legal = subst (λ l. IsRight problem plan (verdict.Legal l)) (sym said.is_stated)
            said.legal;
        right = subst (λ l. IsVerdict (loss_task problem) l log log_verdict.Refutes)
            (sym said.is_stated) said.refuted;
        is = ap Verified said.is_stated;
      })
  proof-known (Missing path) said =
      inr (record {
        verdict_on_log = log_verdict.Missing path;
        legal = said.legal;
        right = said.first;
        is = refl;
      })
  proof-known (Stray path) said =
      inr (record {
        verdict_on_log = log_verdict.Stray path;
        legal = said.legal;
        right = said.first;
        is = refl;
      })
  proof-known (Unsound path) said =
      inr (record {
        verdict_on_log = log_verdict.Unsound path;
        legal = said.legal;
        right = said.first;
        is = refl;
      })
  proof-known a said = inl (record { said = said; other = λ loss is. absurd (cc) })

  -- never both: a plan that is as stated is said to be legal
  apart : (a b : Judgement) → OfPlan a → OfLog b → ⊥
  apart a b of_plan of_log =
      of_plan.other stated (plan-once problem plan stated a (Legal stated) of_plan.said
      (of_log.legal, refl))

  proof-once : (a b : Judgement) → IsSaidOfProof problem stated plan log a →
      IsSaidOfProof problem stated plan log b → a ≡ b
  proof-once a b said other = by_part (proof-known a said) (proof-known b other)
    where
      by_part : OfPlan a ⊎ OfLog a → OfPlan b ⊎ OfLog b → a ≡ b
      by_part (inl one) (inl two) = plan-once problem plan stated a b one.said two.said
      by_part (inl one) (inr two) = absurd (apart a b one two)
      by_part (inr one) (inl two) = absurd (apart b a two one)
      by_part (inr one) (inr two) =
          let same = verdict-unique (loss_task problem) stated log one.verdict_on_log
          two.verdict_on_log one.right two.right in
          sym one.is ∙ ap (judged_by stated) same ∙ two.is

-- ---- an answer

pub said-once : (problem : Problem) (answer : Answer) (a b : Judgement) →
    IsSaidOf problem answer a → IsSaidOf problem answer b → a ≡ b
said-once problem (Optimal loss plan log) a b said other =
    plan-once problem plan loss a b said other
said-once problem (Feasible loss plan spent) a b said other =
    plan-once problem plan loss a b said other
said-once problem (Infeasible order) a b said other = order-once problem order a b said other

pub verdict-on-once : (problem : Problem) (answer : Answer) (a b : Judgement) →
    IsVerdictOn problem answer a → IsVerdictOn problem answer b → a ≡ b
verdict-on-once problem (Optimal loss plan (Some log)) a b said other =
    proof-once problem loss plan log.entries a b said other
verdict-on-once problem (Optimal loss plan None) a b said other = absurd said
verdict-on-once problem (Feasible loss plan spent) a b said other = absurd said
verdict-on-once problem (Infeasible order) a b said other =
    order-once problem order a b said other

-- what proves nothing has no verdict
pub nothing-said : (problem : Problem) (answer : Answer) (judgement : Judgement) →
    IsVerdictOn problem answer judgement → ProvesNothing answer → ⊥
nothing-said problem (Optimal loss plan (Some log)) judgement said nothing = nothing
nothing-said problem (Optimal loss plan None) judgement said nothing = said
nothing-said problem (Feasible loss plan spent) judgement said nothing = said
nothing-said problem (Infeasible order) judgement said nothing = nothing
