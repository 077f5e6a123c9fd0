-- What the reader of the lines behind `optimal` says of the whole text.
use Rattle.std.proofs.Common.{ℕ, ◌≡◌, inl, inr, None, List, [], ◌∷◌, ◌++◌, codes, Err, refl, subst}
use Rattle.std.proofs.Common.{sym, ap, ◌∙◌, arith}
use Rattle.refute_log.specs.Judged as in_log
use Rattle.answer_text.specs.declared.answer.Answer.TheVariants.{Optimal}
use Rattle.answer_text.specs.declared.error.AnswerTextError.{AnswerTextError}
use Rattle.answer_text.specs.declared.error.AnswerTextError.TheVariants.{BadLine, NotRising}
use Rattle.answer_text.specs.declared.error.AnswerTextError.TheVariants.{CountDiffers, OutOfMemory}
use Rattle.answer_text.specs.Line.{loss, plan, spell, IsWithin, AreWithin}
use Rattle.answer_text.specs.Text.{lines_of}
use Rattle.answer_text.specs.Judged.{IsRefused, error_in_log}
use Rattle.answer_text.specs.Reading.{Reading, Reads, Refuses, LacksEnd, RefusesEnding, RefusesLog}
use Rattle.answer_text.specs.Reading.{RefusesRefutation}
use Rattle.answer_text.proofs.Ending.{LacksLog, end-no_log, never-follows}
use Rattle.answer_text.proofs.Fronts.{head_of, no_log-early, no_log-behind}
use Rattle.answer_text.proofs.Begins.{refused-next, awaits-optimal, awaits-optimal_loss}
use Rattle.answer_text.proofs.Begins.{begins-optimal, begins-optimal_loss, bad-end, refused-end}
use Rattle.answer_text.proofs.InLog.{has-log, Refusal, refusal-of, refused-inside}
use Rattle.answer_text.proofs.InLog.Refusal.{nowhere, inside, memory}

module _ (start : Reading) (second : start.read ≡ 1) where
  pub refused-optimal : (error : AnswerTextError) → Refuses loss start error
      → IsRefused start.orders (codes "optimal" ∷ start.rest) error
  refused-optimal error refuses =
      refused-next loss start.orders (codes "optimal" ∷ []) (awaits-optimal start.orders) start
      (codes "optimal" ∷ start.rest) error refl refl second (begins-optimal start.orders)
      (no_log-early start.orders (codes "optimal" ∷ []) start.rest (omega arith)) refuses

  module _ (lost : ℕ) (third : Reading) (loses : Reads start (loss lost) third) where
    pub refused-optimal_loss : (error : AnswerTextError) → Refuses plan third error
        → IsRefused start.orders (codes "optimal" ∷ start.rest) error
    refused-optimal_loss error refuses =
        refused-next plan start.orders (codes "optimal" ∷ spell (loss lost) ∷ [])
        (awaits-optimal_loss start.orders lost) third (codes "optimal" ∷ start.rest) error
        (ap (λ l. codes "optimal" ∷ l) loses.next.text) loses.next.orders
        (omega (arith, loses.next.read)) (begins-optimal_loss start.orders lost loses.within)
        (no_log-early start.orders (codes "optimal" ∷ spell (loss lost) ∷ []) third.rest
        (omega arith)) refuses

    module _ (slabs : List ℕ) (fourth : Reading) (gives : Reads third (plan slabs) fourth) where
      orders : fourth.orders ≡ start.orders
      orders = gives.next.orders ∙ loses.next.orders

      read : fourth.read ≡ 3
      read = omega (arith, loses.next.read, gives.next.read)

      within : AreWithin start.orders (lines_of (Optimal lost slabs None))
      within = (
        tt,
        (
          loses.within,
          (subst (λ n. IsWithin n (plan slabs)) loses.next.orders gives.within, tt),
        ),
      )

      lines : codes "optimal" ∷ start.rest ≡ head_of lost slabs ++ fourth.rest
      lines =
          ap (λ l. codes "optimal" ∷ l)
          (loses.next.text ∙ ap (λ l. spell (loss lost) ∷ l) gives.next.text)

      -- a wrong ending where `end` comes next
      refused-ending : (error : AnswerTextError) → ¬ (LacksEnd fourth.rest)
          → RefusesEnding fourth error
          → IsRefused start.orders (head_of lost slabs ++ fourth.rest) error
      refused-ending (BadLine number) comes (place, is, inl lacks) = absurd (comes lacks.0)
      refused-ending (BadLine number) comes (place, is, inr has) =
          let no_log : LacksLog fourth.rest =
          subst LacksLog (sym has.text) (end-no_log has.end_line has.after has.ended) in
          refused-end start.orders (Optimal lost slabs None) within refl fourth.rest
          (no_log-behind start.orders lost slabs fourth.rest no_log) fourth (BadLine number) refl
          read (λ lacks. absurd (comes lacks)) (place, is, inr has)
      refused-ending (NotRising number) comes refuses = absurd refuses
      refused-ending (CountDiffers stated found) comes refuses = absurd refuses
      refused-ending OutOfMemory comes refuses = tt

      refused-log : (error : AnswerTextError) → RefusesLog fourth error
          → IsRefused start.orders (head_of lost slabs ++ fourth.rest) error
      refused-log error refuses =
          rw refuses.is (by_refusal (refusal-of start.orders 4 fourth.rest refuses.cause says))
        where
          says : in_log.Says start.orders 4 fourth.rest (Err refuses.cause)
          says =
              subst (λ n. in_log.Says n 4 fourth.rest (Err refuses.cause)) orders
              (subst (λ n. in_log.Says fourth.orders n fourth.rest (Err refuses.cause))
              (omega (arith, read)) refuses.says)

          by_refusal : Refusal start.orders 4 fourth.rest refuses.cause
              → IsRefused start.orders (head_of lost slabs ++ fourth.rest)
              (error_in_log refuses.cause)
          by_refusal (nowhere lacks e) =
              rw e (inl (bad-end start.orders (Optimal lost slabs None) within refl fourth.rest
              (no_log-behind start.orders lost slabs fourth.rest lacks)
              (never-follows lost slabs fourth.rest refuses.no_end lacks)))
          by_refusal (inside first) =
              refused-inside start.orders (head_of lost slabs ++ fourth.rest)
              (has-log start.orders lost slabs fourth.rest within first) refuses.cause says
          by_refusal (memory e) = rw e tt

      pub refused-refutation : (error : AnswerTextError) → RefusesRefutation fourth error
          → IsRefused start.orders (codes "optimal" ∷ start.rest) error
      refused-refutation error refuses =
          subst (λ ls. IsRefused start.orders ls error) (sym lines) (by_kind refuses)
        where
          by_kind : RefusesRefutation fourth error
              → IsRefused start.orders (head_of lost slabs ++ fourth.rest) error
          by_kind (inl (comes, refuses)) = refused-ending error comes refuses
          by_kind (inr refuses) = refused-log error refuses
