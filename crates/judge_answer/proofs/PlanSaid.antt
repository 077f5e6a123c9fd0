-- What is said of a plan is what the one right verdict on it says.
use Rattle.std.proofs.Common.{◌≡◌, ◌≢◌, ℕ, Bool, true, false, cond, eqb, List, refl, sym, ap, ◌∙◌}
use Rattle.std.proofs.Common.{eqb-true, eq-eqb}
use Rattle.mill_model.specs.Instance.{Problem, mill_of, loss_charge}
use Rattle.plan_check.specs.Verdicts.{IsHeavy, IsColourful}
use Rattle.plan_check.specs.declared.verdict.Verdict.{Verdict}
use Rattle.plan_check.specs.declared.verdict.Verdict.TheVariants as verdict
use Rattle.plan_check.proofs.Judged.{IsJudged, legal-judged, heavy-judged, colourful-judged}
use Rattle.reply_text.specs.declared.judgement.Judgement.{Judgement}
use Rattle.reply_text.specs.declared.judgement.Judgement.TheVariants.{Legal, Heavy, Colourful}
use Rattle.reply_text.specs.declared.judgement.Judgement.TheVariants.{LossDiffers}
use Rattle.judge_answer.specs.Check.{IsLegalWith, IsSaidOfPlan}

-- what a verdict says where so much is stated
abbrev pub said_by : ℕ → Verdict → Judgement
said_by stated (verdict.Legal loss) =
    cond (eqb stated loss) (Legal loss) (LossDiffers stated loss)
said_by stated (verdict.Heavy slab load) = Heavy slab load
said_by stated (verdict.Colourful slab colours) = Colourful slab colours

said-stated : (stated loss : ℕ) → stated ≡ loss → said_by stated (verdict.Legal loss) ≡ Legal loss
said-stated stated loss same = rw (eq-eqb stated loss same) refl

said-other : (stated loss : ℕ) → stated ≢ loss →
    said_by stated (verdict.Legal loss) ≡ LossDiffers stated loss
said-other stated loss other = by_test (eqb stated loss) refl
  where
    by_test : (b : Bool) → b ≡ eqb stated loss →
        cond b (Legal loss) (LossDiffers stated loss) ≡ LossDiffers stated loss
    by_test true is = absurd (other (eqb-true stated loss (sym is)))
    by_test false is = refl

module _ (problem : Problem) (plan : List ℕ) where
  -- a verdict on the plan is right
  abbrev pub IsRight : Verdict → Type 0
  IsRight (verdict.Legal loss) = IsLegalWith problem plan loss
  IsRight (verdict.Heavy slab load) = IsHeavy (mill_of problem) problem.orders plan slab load
  IsRight (verdict.Colourful slab colours) =
      IsColourful (mill_of problem) problem.orders plan slab colours

  -- plan_check shows that a right verdict excludes each other one
  judged : (v : Verdict) → IsRight v →
      IsJudged (mill_of problem) (loss_charge problem.sizes) problem.orders plan v
  judged (verdict.Legal loss) right = legal-judged _ _ _ _ loss right
  judged (verdict.Heavy slab load) right = heavy-judged _ _ _ _ slab load right
  judged (verdict.Colourful slab colours) right = colourful-judged _ _ _ _ slab colours right

  pub verdict-once : (v w : Verdict) → IsRight v → IsRight w → v ≡ w
  verdict-once v (verdict.Legal loss) right other = ((judged v right).is_legal loss).1 other
  verdict-once v (verdict.Heavy slab load) right other =
      ((judged v right).is_heavy slab load).1 other
  verdict-once v (verdict.Colourful slab colours) right other =
      ((judged v right).is_colourful slab colours).1 other

  -- and what is said is what it says
  pub plan-known : (stated : ℕ) (a : Judgement) → IsSaidOfPlan problem stated plan a →
      (v : Verdict) × IsRight v × (said_by stated v ≡ a)
  plan-known stated (Legal loss) said =
      (verdict.Legal loss, said.0, said-stated stated loss said.1)
  plan-known stated (LossDiffers other loss) said = (
    verdict.Legal loss,
    said.0,
    said-other stated loss said.2 ∙ ap (λ s. LossDiffers s loss) (sym said.1),
  )
  plan-known stated (Heavy slab load) said = (verdict.Heavy slab load, said, refl)
  plan-known stated (Colourful slab colours) said = (verdict.Colourful slab colours, said, refl)
  plan-known stated a said = absurd said

  pub plan-once : (stated : ℕ) (a b : Judgement) → IsSaidOfPlan problem stated plan a →
      IsSaidOfPlan problem stated plan b → a ≡ b
  plan-once stated a b said other =
      let one = plan-known stated a said in
      let two = plan-known stated b other in
      sym one.2 ∙ ap (said_by stated) (verdict-once one.0 two.0 one.1 two.1) ∙ two.2
