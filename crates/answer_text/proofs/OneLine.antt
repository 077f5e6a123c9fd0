-- A reader of one line: what it says of the line, and of the lines that it refuses.
use Rattle.std.proofs.Common.{ℕ, ◌+◌, ◌≡◌, ◌≢◌, List, [], ◌∷◌, Option, Some}
use Rattle.std.proofs.Common.{None, Result, IfOk, IfErr, IfSome, IfNone, refl, subst, sym}
use Rattle.std.proofs.Common.{ap, ◌∙◌}
use Rattle.std.specs.Option.{ok_or}
use Rattle.line_text.specs.Words.{line_words}
use Rattle.answer_text.specs.declared.error.AnswerTextError.{AnswerTextError}
use Rattle.answer_text.specs.declared.error.AnswerTextError.TheVariants.{BadLine}
use Rattle.answer_text.specs.Line.{Line, spell, words_of, IsWithin}
use Rattle.answer_text.specs.Reading.{Reading, IsNext, Reads, LacksAll, Refuses}
use Rattle.answer_text.proofs.Lines.{spell-words}

module _ {X : Type 0} (line : X → Line) (orders : ℕ) (old new : Reading) (bytes : List ℕ)
    (next : IsNext old bytes new) (for_orders : orders ≡ old.orders) where
  pub reads-line : (found : Option X) (result : Result X AnswerTextError) (error : AnswerTextError)
      → result ≡ ok_or found error
      → IfSome found (λ x. line_words bytes ≡ words_of (line x))
      → IfSome found (λ x. IsWithin orders (line x))
      → IfOk result (λ x. Reads old (line x) new)
  reads-line None result error e some within = rw e tt
  reads-line (Some x) result error e some within =
      let same : bytes ≡ spell (line x) = spell-words bytes (line x) some in
      rw e (record {
        next = subst (λ l. IsNext old l new) same next;
        within = subst (λ n. IsWithin n (line x)) for_orders within;
      })

  lacks-line : ((x : X) → IsWithin orders (line x)
      → line_words (spell (line x)) ≡ words_of (line x))
      → ((x : X) → IsWithin orders (line x) → line_words bytes ≢ words_of (line x))
      → LacksAll line old.orders old.rest
  lacks-line words none x given begins =
      let within : IsWithin orders (line x) =
      subst (λ n. IsWithin n (line x)) (sym for_orders) given in
      let e : bytes ∷ new.rest ≡ spell (line x) ∷ begins.more = sym next.text ∙ begins.is in
      let here : bytes ≡ spell (line x) = cc in
      none x within
      (ap line_words here ∙ words x within)

  pub refuses-line : (found : Option X) (result : Result X AnswerTextError)
      (error : AnswerTextError)
      → ((x : X) → IsWithin orders (line x)
      → line_words (spell (line x)) ≡ words_of (line x))
      → result ≡ ok_or found error → error ≡ BadLine new.read
      → IfNone found ((x : X) → IsWithin orders (line x)
      → line_words bytes ≢ words_of (line x))
      → IfErr result (Refuses line old)
  refuses-line None result error words e bad none =
      rw (e, bad) (next.read, lacks-line words none)
  refuses-line (Some x) result error words e bad none = rw e tt

-- where no line is left
pub lacks-more : {X : Type 0} (line : X → Line) (old : Reading) (error : AnswerTextError)
    → old.rest ≡ [] → error ≡ BadLine (old.read + 1) → Refuses line old error
lacks-more line old error none e =
    rw e (
      refl,
      λ x within begins.
          absurd (let z : [] ≡ spell (line x) ∷ begins.more = sym none ∙ begins.is in cc),
    )
