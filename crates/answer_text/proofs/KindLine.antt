-- What the reader of the line that names the kind of an answer says of the whole text.
use Rattle.std.proofs.Common.{ℕ, ◌+◌, ◌≡◌, ◌≢◌, List, [], ◌∷◌, codes, refl, subst, sym, ap, ◌∙◌}
use Rattle.std.proofs.Common.{arith, Result, Ok, Err, IfErr}
use Rattle.answer_text.specs.declared.answer.Answer.{Answer}
use Rattle.answer_text.specs.declared.answer.Answer.TheVariants.{Optimal, Feasible, Infeasible}
use Rattle.answer_text.specs.declared.error.AnswerTextError.{AnswerTextError}
use Rattle.answer_text.specs.declared.error.AnswerTextError.TheVariants.{BadLine}
use Rattle.answer_text.specs.Judged.{IsRefused}
use Rattle.answer_text.specs.Reading.{Reading, IsNext, LacksAll, Refuses}
use Rattle.answer_text.proofs.Fronts.{no_log-early}
use Rattle.answer_text.proofs.Begins.{refused-next, kind_of, awaits-kind, begins-nothing}
use Rattle.answer_text.proofs.OneLine.{lacks-more}

module _ (start : Reading) (error : AnswerTextError) (first : start.read ≡ 0) where
  refused-kind : Refuses kind_of start error → IsRefused start.orders start.rest error
  refused-kind refuses =
      refused-next kind_of start.orders [] (awaits-kind start.orders) start start.rest error refl
      refl first (begins-nothing start.orders)
      (no_log-early start.orders [] start.rest (omega arith)) refuses

  pub refused-nothing : start.rest ≡ [] → error ≡ BadLine (start.read + 1)
      → IsRefused start.orders start.rest error
  refused-nothing none e = refused-kind (lacks-more kind_of start error none e)

  pub refused-other : (line : List ℕ) (second : Reading) → IsNext start line second
      → line ≢ codes "optimal" → line ≢ codes "feasible" → line ≢ codes "infeasible"
      → error ≡ BadLine second.read → IsRefused start.orders start.rest error
  refused-other line second next not_optimal not_feasible not_infeasible e =
      refused-kind (rw e (next.read, none))
    where
      none : LacksAll kind_of start.orders start.rest
      none (Optimal lost slabs refutation) within begins =
          let z : line ∷ second.rest ≡ codes "optimal" ∷ begins.more =
          sym next.text ∙ begins.is in
          not_optimal (cc)
      none (Feasible lost slabs closed) within begins =
          let z : line ∷ second.rest ≡ codes "feasible" ∷ begins.more =
          sym next.text ∙ begins.is in
          not_feasible (cc)
      none (Infeasible place) within begins =
          let z : line ∷ second.rest ≡ codes "infeasible" ∷ begins.more =
          sym next.text ∙ begins.is in
          not_infeasible (cc)

-- what is refused behind the line that names the kind
pub err-behind : (start second : Reading) (line word : List ℕ) → IsNext start line second
    → line ≡ word → (result : Result Answer AnswerTextError)
    → IfErr result (IsRefused second.orders (word ∷ second.rest))
    → IfErr result (IsRefused start.orders start.rest)
err-behind start second line word next same (Ok answer) err = tt
err-behind start second line word next same (Err error) err =
    let text : start.rest ≡ word ∷ second.rest =
    next.text ∙ ap (λ l. l ∷ second.rest) same in
    subst (λ lines. IsRefused start.orders lines error) (sym text)
    (subst (λ n. IsRefused n (word ∷ second.rest) error) next.orders err)
