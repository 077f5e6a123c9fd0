-- What stops the reading of an answer is a refusal of its lines, or want of memory.
use Rattle.std.specs.Prelude.{Err}
use Rattle.std.proofs.Common.{◌≡◌, ℕ, List, length, refl, inr}
use Rattle.instance_text.specs.Text.{Begins}
use Rattle.answer_text.specs.declared.error.AnswerTextError.{AnswerTextError}
use Rattle.answer_text.specs.declared.error.AnswerTextError.TheVariants as error
use Rattle.answer_text.specs.Judged.{IsBadLine, IsNotRising, CountIsOther}
use Rattle.reply_text.specs.Stop.{stop_in_answer}
use Rattle.slab_top.specs.Input.{Front, lines_behind, instance_with_answer}
use Rattle.slab_top.specs.Reply.{IsReading}

module _ (p : ℕ) (bytes : List ℕ) (front : Front) (colours : front.problem.p ≡ p)
    (begins : Begins bytes front.problem front.end) where
  abbrev orders : ℕ
  orders = length front.problem.orders

  abbrev lines : List (List ℕ)
  lines = lines_behind bytes front.end

  pub answer-stops : (cause : AnswerTextError) →
      ((number : ℕ) → cause ≡ error.BadLine number → IsBadLine orders lines number) →
      ((number : ℕ) → cause ≡ error.NotRising number → IsNotRising orders lines number) →
      ((stated found : ℕ) → cause ≡ error.CountDiffers stated found →
      CountIsOther orders lines stated found) →
      IsReading (instance_with_answer p bytes) (Err (stop_in_answer cause))
  answer-stops error.OutOfMemory bad rise count = tt
  answer-stops (error.BadLine number) bad rise count = inr (
    front,
    (colours, begins),
    (error.BadLine number, refl, record { of_text = λ e. cc; wrong = bad number refl }),
  )
  answer-stops (error.NotRising number) bad rise count = inr (
    front,
    (colours, begins),
    (error.NotRising number, refl, record { of_text = λ e. cc; wrong = rise number refl }),
  )
  answer-stops (error.CountDiffers stated found) bad rise count = inr (
    front,
    (colours, begins),
    (
      error.CountDiffers stated found,
      refl,
      record { of_text = λ e. cc; wrong = count stated found refl },
    ),
  )
