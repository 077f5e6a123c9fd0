-- What is printed of an answer is read behind its instance, and judged as the answer that it is.
use Rattle.std.specs.Prelude.{Option, Some, None}
use Rattle.std.proofs.Common.{◌≡◌, ℕ, List, ◌∷◌, ◌++◌, length, drop, refl, sym, ap, ◌∙◌, subst}
use Rattle.std.proofs.Common.{inl, inr}
use Rattle.mill_model.specs.Instance.{Problem}
use Rattle.mill_model.specs.declared.limits.Limits.{Limits}
use Rattle.line_text.specs.Lines.{text_lines}
use Rattle.refute_log.specs.declared.piece.Run.{Run}
use Rattle.answer_text.specs.declared.answer.Answer.{Answer}
use Rattle.answer_text.specs.declared.answer.Answer.TheVariants.{Optimal, Feasible, Infeasible}
use Rattle.answer_text.specs.Text.{answer_text, IsAnswerText}
use Rattle.job_words.specs.declared.job.Job.{Job}
use Rattle.reply_text.specs.declared.judgement.Judgement.TheVariants.{Legal, Verified, Confirmed}
use Rattle.reply_text.specs.declared.outcome.Outcome.TheVariants.{Judged}
use Rattle.reply_text.specs.declared.refusal.Refusal.TheVariants.{AnswerKind}
use Rattle.solve_answer.specs.Course.{Course}
use Rattle.solve_answer.specs.Solved.{IsSolution, IsProved}
use Rattle.judge_answer.specs.Check.{IsSaidOf}
use Rattle.judge_answer.specs.Verify.{IsVerified}
use Rattle.slab_top.specs.Input.{after_white, instance_alone, instance_with_answer, lines_behind}
use Rattle.slab_top.specs.Reply.{Tells}
use Rattle.slab_top.specs.Check.{Checks}
use Rattle.slab_top.specs.Verify.{Verifies}
use Rattle.slab_top.specs.BothHalves.{with_printed, verified_as, checked_as}
use Rattle.slab_top.proofs.MoreBehind.{begins-before, ends-within, behind-blank}

-- ---- reading

-- the text of an answer has no white space in front
begins-solid : (answer : Answer) → after_white (answer_text answer) ≡ answer_text answer
begins-solid (Optimal loss plan log) = refl
begins-solid (Feasible loss plan spent) = refl
begins-solid (Infeasible order) = refl

-- behind an instance that stood alone, and a line feed, what is printed reads as the answer
pub read-behind : (p : ℕ) (input : List ℕ) (problem : Problem) (answer : Answer) →
    (instance_alone p input).Reads problem →
    IsAnswerText (length problem.orders) answer (text_lines (answer_text answer)) →
    (instance_with_answer p (with_printed input answer)).Reads (problem, answer)
read-behind p input problem answer alone back =
    let front = alone.0 in
    let begins = alone.1.1 in
    let rest = 10 ∷ answer_text answer in
    let behind : after_white (drop front.end (input ++ rest)) ≡ answer_text answer =
    behind-blank input rest front.end (ends-within input front.problem front.end begins) alone.2.1
    ∙ begins-solid answer in
    let lines : text_lines (answer_text answer) ≡ lines_behind (input ++ rest) front.end =
    ap text_lines (sym behind) in
    let of_front : IsAnswerText (length front.problem.orders) answer
    (text_lines (answer_text answer)) =
    subst (λ (q : Problem). IsAnswerText (length q.orders) answer
    (text_lines (answer_text answer))) alone.2.0 back in (
      front,
      (alone.1.0, begins-before input rest front.problem front.end refl begins),
      (
        alone.2.0,
        subst (λ read. IsAnswerText (length front.problem.orders) answer read) lines of_front,
      ),
    )

-- ---- judging

module _ (limits : Limits) (problem : Problem) where
  -- the plan of an answer is legal and loses what is told, and its order is the first heavy one
  said-of-told : (answer : Answer) → IsSolution limits problem answer →
      Tells Judged (IsSaidOf problem answer) (checked_as answer)
  said-of-told (Optimal loss plan log) right =
      (Legal loss, refl, (right.1.found.found, refl))
  said-of-told (Feasible loss plan spent) right =
      (Legal loss, refl, (right.1.feasible.found.found, refl))
  said-of-told (Infeasible order) right = (Confirmed order, refl, (right, refl))

  -- so `check` accepts what is read
  pub checks-told : (job : Job) (bytes : List ℕ) (answer : Answer) →
      (instance_with_answer job.p bytes).Reads (problem, answer) →
      IsSolution limits problem answer → Checks job bytes (checked_as answer)
  checks-told job bytes answer reads right =
      inr ((problem, answer), reads, said-of-told answer right)

  -- of an optimal plan the log refutes its loss, and a feasible one has no log
  pub verifies-proved : (course : Course) (job : Job) (bytes : List ℕ) (answer : Answer)
      (run : Option Run) → (instance_with_answer job.p bytes).Reads (problem, answer) →
      IsProved limits course problem (record { answer = answer; run = run }) →
      Verifies job bytes (verified_as answer)
  verifies-proved course job bytes (Optimal loss plan None) run reads proved =
      absurd proved.log
  verifies-proved course job bytes (Optimal loss plan (Some log)) run reads proved =
      let answer = Optimal loss plan (Some log) in
      let best = proved.told.solution.1 in
      let verified : IsVerified problem loss plan log.entries loss = record {
        legal = best.found.found;
        is_stated = refl;
        refuted = proved.log.refutes;
        least = best.least;
      } in
      inr (
        (problem, answer),
        ((problem, answer), reads, (refl, λ nothing. nothing)),
        (Verified loss, refl, verified),
      )
  verifies-proved course job bytes (Feasible loss plan spent) run reads proved =
      inl (AnswerKind, refl, inr ((problem, Feasible loss plan spent), reads, (refl, tt)))
  verifies-proved course job bytes (Infeasible order) run reads proved =
      inr (
        (problem, Infeasible order),
        ((problem, Infeasible order), reads, (refl, λ nothing. nothing)),
        (Confirmed order, refl, (proved.told.solution, refl)),
      )
