-- An answer of `solve` or of `prove` is a right answer to a search that asks for it.
use Rattle.std.proofs.Common.{◌≡◌, ◌≤◌, [], true, false, Result, Ok, Err, IfOk, sym, subst}
use Rattle.std.proofs.Common.{arith}
use Rattle.answer_text.specs.Text.{Fits, most_orders}
use Rattle.mill_model.specs.declared.limits.Limits.{Limits}
use Rattle.reply_text.specs.declared.solution.Solution.{Solution}
use Rattle.solve_answer.specs.Course.{Course, Scheduled}
use Rattle.solve_answer.specs.Solved.{IsProved, IsSolved}
use Rattle.slab_top.specs.Searches.{IsAsAsked, IsRightAnswer}
use Rattle.slab_top.specs.Threads.{course_of}
use Rattle.slab_top.specs.declared.search.Search.{Search}
use Rattle.slab_top.proofs.Courses.{one-takes-turns}

module _ {E : Type 0} (search : Search) (result : Result Solution E)
    (told : IfOk result (λ solution. Fits (most_orders solution.answer) solution.answer)) where
  pub proved-rightly : (course : Course) → search.with_log ≡ true →
      course_of search.limits ≡ course →
      IfOk result (IsProved search.limits course search.instance) →
      IfOk result (IsRightAnswer search)
  proved-rightly course log same is = go result told is
    where
      go : (r : Result Solution E) →
          IfOk r (λ solution. Fits (most_orders solution.answer) solution.answer) →
          IfOk r (IsProved search.limits course search.instance) → IfOk r (IsRightAnswer search)
      go (Ok solution) fits proved = record {
        is = subst (λ asked. IsAsAsked asked search.limits search.instance solution) (sym log)
            (subst (λ c. IsProved search.limits c search.instance solution) (sym same) proved);
        told = fits;
      }
      go (Err e) fits proved = tt

  pub solved-rightly : (course : Course) → search.with_log ≡ false →
      course_of search.limits ≡ course →
      IfOk result (IsSolved search.limits course search.instance) →
      IfOk result (IsRightAnswer search)
  solved-rightly course log same is = go result told is
    where
      go : (r : Result Solution E) →
          IfOk r (λ solution. Fits (most_orders solution.answer) solution.answer) →
          IfOk r (IsSolved search.limits course search.instance) → IfOk r (IsRightAnswer search)
      go (Ok solution) fits solved = record {
        is = subst (λ asked. IsAsAsked asked search.limits search.instance solution) (sym log)
            (subst (λ c. IsSolved search.limits c search.instance solution) (sym same) solved);
        told = fits;
      }
      go (Err e) fits solved = tt

-- the course of one worker
pub turns-where-one : (limits : Limits) → limits.workers ≤ 1 → course_of limits ≡ Scheduled []
turns-where-one limits one = one-takes-turns limits (λ more. omega (arith, one, more))
