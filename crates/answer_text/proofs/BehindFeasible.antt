-- What the reader of the lines behind `feasible` says of the whole text.
use Rattle.std.proofs.Common.{ℕ, ◌≡◌, List, [], ◌∷◌, ◌++◌, map, codes, refl, subst, sym, ap, ◌∙◌}
use Rattle.std.proofs.Common.{arith}
use Rattle.answer_text.specs.declared.answer.Answer.TheVariants.{Feasible}
use Rattle.answer_text.specs.declared.error.AnswerTextError.{AnswerTextError}
use Rattle.answer_text.specs.Line.{loss, plan, spent, spell, IsWithin, AreWithin}
use Rattle.answer_text.specs.Text.{lines_of}
use Rattle.answer_text.specs.Judged.{IsRefused}
use Rattle.answer_text.specs.Reading.{Reading, Reads, Refuses, RefusesEnding}
use Rattle.answer_text.proofs.Ending.{never-ends}
use Rattle.answer_text.proofs.Fronts.{no_log-other}
use Rattle.answer_text.proofs.Begins.{refused-next, awaits-feasible, awaits-feasible_loss}
use Rattle.answer_text.proofs.Begins.{awaits-feasible_plan, begins-feasible, begins-feasible_loss}
use Rattle.answer_text.proofs.Begins.{begins-feasible_plan, refused-end}

module _ (start : Reading) (second : start.read ≡ 1) where
  pub refused-feasible : (error : AnswerTextError) → Refuses loss start error
      → IsRefused start.orders (codes "feasible" ∷ start.rest) error
  refused-feasible error refuses =
      refused-next loss start.orders (codes "feasible" ∷ []) (awaits-feasible start.orders) start
      (codes "feasible" ∷ start.rest) error refl refl second (begins-feasible start.orders)
      (λ wrong. no_log-other start.orders (codes "feasible") start.rest (omega arith)) refuses

  module _ (lost : ℕ) (third : Reading) (loses : Reads start (loss lost) third) where
    pub refused-feasible_loss : (error : AnswerTextError) → Refuses plan third error
        → IsRefused start.orders (codes "feasible" ∷ start.rest) error
    refused-feasible_loss error refuses =
        refused-next plan start.orders (codes "feasible" ∷ spell (loss lost) ∷ [])
        (awaits-feasible_loss start.orders lost) third (codes "feasible" ∷ start.rest) error
        (ap (λ l. codes "feasible" ∷ l) loses.next.text) loses.next.orders
        (omega (arith, loses.next.read)) (begins-feasible_loss start.orders lost loses.within)
        (λ wrong. no_log-other start.orders (codes "feasible") (spell (loss lost) ∷ third.rest)
        (omega arith)) refuses

    module _ (slabs : List ℕ) (fourth : Reading) (gives : Reads third (plan slabs) fourth) where
      planned : IsWithin start.orders (plan slabs)
      planned = subst (λ n. IsWithin n (plan slabs)) loses.next.orders gives.within

      pub refused-feasible_plan : (error : AnswerTextError) → Refuses spent fourth error
          → IsRefused start.orders (codes "feasible" ∷ start.rest) error
      refused-feasible_plan error refuses =
          refused-next spent start.orders
          (codes "feasible" ∷ spell (loss lost) ∷ spell (plan slabs) ∷ [])
          (awaits-feasible_plan start.orders lost slabs) fourth (codes "feasible" ∷ start.rest)
          error
          (ap (λ l. codes "feasible" ∷ l)
          (loses.next.text ∙ ap (λ l. spell (loss lost) ∷ l) gives.next.text))
          (gives.next.orders ∙ loses.next.orders)
          (omega (arith, loses.next.read, gives.next.read))
          (begins-feasible_plan start.orders lost slabs loses.within planned)
          (λ wrong. no_log-other start.orders (codes "feasible")
          (spell (loss lost) ∷ spell (plan slabs) ∷ fourth.rest) (omega arith)) refuses

      module _ (closed : ℕ) (fifth : Reading) (spends : Reads fourth (spent closed) fifth) where
        within : AreWithin start.orders (lines_of (Feasible lost slabs closed))
        within = (tt, (loses.within, (planned, (spends.within, tt))))

        lines : codes "feasible" ∷ start.rest
            ≡ map spell (lines_of (Feasible lost slabs closed)) ++ fifth.rest
        lines =
            ap (λ l. codes "feasible" ∷ l)
            (loses.next.text
            ∙ ap (λ l. spell (loss lost) ∷ l)
            (gives.next.text ∙ ap (λ l. spell (plan slabs) ∷ l) spends.next.text))

        pub refused-feasible_spent : (error : AnswerTextError) → RefusesEnding fifth error
            → IsRefused start.orders (codes "feasible" ∷ start.rest) error
        refused-feasible_spent error refuses =
            subst (λ ls. IsRefused start.orders ls error) (sym lines)
            (refused-end start.orders (Feasible lost slabs closed) within refl fifth.rest
            (no_log-other start.orders (codes "feasible") _ (omega arith)) fifth error refl
            (omega (arith, loses.next.read, gives.next.read, spends.next.read))
            (never-ends fifth.rest) refuses)
