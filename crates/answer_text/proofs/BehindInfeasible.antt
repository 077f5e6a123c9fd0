-- What the reader of the lines behind `infeasible` says of the whole text.
use Rattle.std.proofs.Common.{ℕ, ◌≡◌, [], ◌∷◌, ◌++◌, map, codes, refl, subst, sym, ap, arith}
use Rattle.answer_text.specs.declared.answer.Answer.TheVariants.{Infeasible}
use Rattle.answer_text.specs.declared.error.AnswerTextError.{AnswerTextError}
use Rattle.answer_text.specs.Line.{order, spell, AreWithin}
use Rattle.answer_text.specs.Text.{lines_of}
use Rattle.answer_text.specs.Judged.{IsRefused}
use Rattle.answer_text.specs.Reading.{Reading, Reads, Refuses, RefusesEnding}
use Rattle.answer_text.proofs.Ending.{never-ends}
use Rattle.answer_text.proofs.Fronts.{no_log-other}
use Rattle.answer_text.proofs.Begins.{refused-next, awaits-infeasible, begins-infeasible}
use Rattle.answer_text.proofs.Begins.{refused-end}

module _ (start : Reading) (second : start.read ≡ 1) where
  pub refused-infeasible : (error : AnswerTextError) → Refuses order start error
      → IsRefused start.orders (codes "infeasible" ∷ start.rest) error
  refused-infeasible error refuses =
      refused-next order start.orders (codes "infeasible" ∷ []) (awaits-infeasible start.orders)
      start (codes "infeasible" ∷ start.rest) error refl refl second
      (begins-infeasible start.orders)
      (λ wrong. no_log-other start.orders (codes "infeasible") start.rest (omega arith)) refuses

  module _ (place : ℕ) (third : Reading) (names : Reads start (order place) third) where
    within : AreWithin start.orders (lines_of (Infeasible place))
    within = (tt, (names.within, tt))

    lines : codes "infeasible" ∷ start.rest
        ≡ map spell (lines_of (Infeasible place)) ++ third.rest
    lines = ap (λ l. codes "infeasible" ∷ l) names.next.text

    pub refused-infeasible_order : (error : AnswerTextError) → RefusesEnding third error
        → IsRefused start.orders (codes "infeasible" ∷ start.rest) error
    refused-infeasible_order error refuses =
        subst (λ ls. IsRefused start.orders ls error) (sym lines)
        (refused-end start.orders (Infeasible place) within refl third.rest
        (no_log-other start.orders (codes "infeasible") _ (omega arith)) third error refl
        (omega (arith, names.next.read)) (never-ends third.rest) refuses)
