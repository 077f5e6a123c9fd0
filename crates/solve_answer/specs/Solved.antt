-- What is answered to a problem, and where two answers agree.
use Rattle.std.specs.Prelude.{◌≡◌, ℕ, ◌<◌, ◌≤◌, List, [], length, Option, Some, None}
use Rattle.mill_model.specs.Best.{IsBest, IsFeasible}
use Rattle.mill_model.specs.Instance.{Problem, largest, mill_of, loss_charge}
use Rattle.mill_model.specs.Log.{Refutes}
use Rattle.mill_model.specs.Size.{thrifty_size}
use Rattle.mill_model.specs.Thrift.{AreThrifty}
use Rattle.mill_model.specs.declared.closing.Entry.{Entry}
use Rattle.mill_model.specs.declared.limits.Limits.{Limits}
use Rattle.line_text.specs.Lines.{text_lines}
use Rattle.refute_log.specs.Logged.{Logged}
use Rattle.refute_log.specs.declared.piece.Run.{Run}
use Rattle.answer_text.specs.declared.answer.Answer.{Answer}
use Rattle.answer_text.specs.declared.answer.Answer.TheVariants.{Optimal, Feasible, Infeasible}
use Rattle.answer_text.specs.Text.{answer_text, IsAnswerText}
use Rattle.mill_model.specs.Heavy.{IsFirstHeavy, NoneHeavy}
use Rattle.reply_text.specs.declared.solution.Solution.{Solution}
use Rattle.solve_answer.specs.Course.{Course}
use Rattle.solve_answer.specs.Searched.{loss_task, OfStartBound, AreOfASearch, HasStopped}

-- A plan may be told as feasible with a spent budget: it loses no more than the start bound, and
-- the budget is less than the thrifty tree of that bound has paths.
pub record IsSpent (limits : Limits) (problem : Problem) (loss : ℕ) (plan : List ℕ) (spent : ℕ)
    : Type 0 where
  pub feasible :
      IsFeasible (mill_of problem) (loss_charge problem.sizes) problem.orders limits
      (record { plan = plan; loss = loss }) spent
  pub below_tree :
      OfStartBound problem limits.moves
      (λ bound. limits.nodes < thrifty_size (loss_task problem) bound)

-- an answer is right, for a search with these limits
abbrev pub IsSolution : Limits → Problem → Answer → Type 0
IsSolution limits problem (Infeasible place) = IsFirstHeavy problem place
IsSolution limits problem (Optimal loss plan refutation) =
    NoneHeavy (largest problem.sizes) problem.orders
    × IsBest (mill_of problem) (loss_charge problem.sizes) problem.orders
    (record { plan = plan; loss = loss })
IsSolution limits problem (Feasible loss plan spent) =
    NoneHeavy (largest problem.sizes) problem.orders
    × IsSpent limits problem loss plan spent

-- the run that is handed out with an answer: of a feasible one that of the search behind it, whose
-- workers took this course, and of others none
abbrev pub HandsOut : Limits → Course → Problem → Answer → Option Run → Type 0
HandsOut limits course problem (Feasible loss plan spent) None = ⊥
HandsOut limits course problem (Feasible loss plan spent) (Some run) =
    HasStopped limits course problem loss plan run
HandsOut limits course problem answer run = run ≡ None

-- what is said of its loss and its log, where it is optimal
abbrev pub WhereOptimal : (ℕ → Option Logged → Type 0) → Answer → Type 0
WhereOptimal Is (Optimal loss plan refutation) = Is loss refutation
WhereOptimal Is answer = Unit {0}

-- a log refutes a loss; its records are at most as many as the budget, thrifty, and those of a
-- search whose workers took this course
pub record IsRefutation (limits : Limits) (course : Course) (problem : Problem) (loss : ℕ)
    (log : List Entry) : Type 0 where
  pub refutes : Refutes (loss_task problem) loss log
  pub few : length log ≤ limits.nodes
  pub thrifty :
      OfStartBound problem limits.moves (λ bound. AreThrifty (loss_task problem) bound log)
  pub of_a_search : AreOfASearch limits course problem log

-- there is such a log
abbrev pub HasRefutation : Limits → Course → Problem → ℕ → Option Logged → Type 0
HasRefutation limits course problem loss None = ⊥
HasRefutation limits course problem loss (Some log) =
    IsRefutation limits course problem loss log.entries

-- an answer is right, what is printed of it reads as this answer, and the run behind it is there
pub record IsTold (limits : Limits) (course : Course) (problem : Problem) (told : Solution)
    : Type 0 where
  pub solution : IsSolution limits problem told.answer
  pub reads_back :
      IsAnswerText (length problem.orders) told.answer (text_lines (answer_text told.answer))
  pub run : HandsOut limits course problem told.answer told.run

-- what `solve` answers to a problem: it has no log
pub record IsSolved (limits : Limits) (course : Course) (problem : Problem) (solution : Solution)
    : Type 0 where
  pub told : IsTold limits course problem solution
  pub log : WhereOptimal (λ loss log. log ≡ None) solution.answer

-- what `prove` answers to a problem, and `replay` by a schedule: where it is optimal it has a log
-- that refutes its loss
pub record IsProved (limits : Limits) (course : Course) (problem : Problem) (solution : Solution)
    : Type 0 where
  pub told : IsTold limits course problem solution
  pub log : WhereOptimal (HasRefutation limits course problem) solution.answer

-- Two answers to a problem agree. Optimal ones have one loss, though it may be that of several
-- plans, with several logs, and a feasible one loses no less. Feasible ones spend one budget, and
-- may tell any plan.
abbrev pub AgreeOnAnswers : Answer → Answer → Type 0
AgreeOnAnswers (Optimal loss plan log) (Optimal other slabs entries) = loss ≡ other
AgreeOnAnswers (Optimal loss plan log) (Feasible other slabs spent) = loss ≤ other
AgreeOnAnswers (Feasible loss plan spent) (Optimal other slabs log) = other ≤ loss
AgreeOnAnswers (Feasible loss plan spent) (Feasible other slabs closed) = spent ≡ closed
AgreeOnAnswers answer other = answer ≡ other
