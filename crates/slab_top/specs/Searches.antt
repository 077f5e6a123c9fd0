-- Searches that a call is asked for, and what it answers to them.
use Rattle.std.specs.Prelude.{ℕ, ◌≤◌, Bool, true, false, Result, IfOk}
use Rattle.answer_text.specs.Text.{Fits, most_orders}
use Rattle.mill_model.specs.Instance.{Problem}
use Rattle.mill_model.specs.declared.limits.Limits.{Limits}
use Rattle.mill_model.specs.declared.limits.TheConstants.{MAX_NODES}
use Rattle.reply_text.specs.declared.solution.Solution.{Solution}
use Rattle.solve_answer.specs.Solved.{IsProved, IsSolved}
use Rattle.slab_top.specs.Threads.{course_of}
use Rattle.slab_top.specs.declared.search.Search.{Search}

-- a search within the limits of a job
pub record IsWithinLimits (search : Search) : Type 0 where
  pub some : 1 ≤ search.limits.workers
  pub few : search.limits.workers ≤ 64
  pub nodes : search.limits.nodes ≤ MAX_NODES

-- what `solve` or `prove` answers, as the search is for an answer with a log or without
abbrev pub IsAsAsked : Bool → Limits → Problem → Solution → Type 0
IsAsAsked true limits = IsProved limits (course_of limits)
IsAsAsked false limits = IsSolved limits (course_of limits)

-- a right answer to a search, which can be told
pub record IsRightAnswer (search : Search) (solution : Solution) : Type 0 where
  pub is : IsAsAsked search.with_log search.limits search.instance solution
  pub told : Fits (most_orders solution.answer) solution.answer

-- a call may be asked for each search within the limits, and answers it rightly
pub record AnswersRightly {E : Type 0} (pre : Search → Type 0)
    (post : Search → Result Solution E → Type 0) : Type 0 where
  pub may : (search : Search) → IsWithinLimits search → pre search
  pub right : (search : Search) (result : Result Solution E) → post search result →
      IfOk result (IsRightAnswer search)
