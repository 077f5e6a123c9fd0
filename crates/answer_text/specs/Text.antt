-- The text of an answer, as lines.
use Rattle.std.specs.Prelude.{ℕ, ◌≡◌, true, List, [], ◌∷◌, ◌++◌, map, length, codes}
use Rattle.std.specs.Prelude.{Option, Some, None, IfSome}
use Rattle.line_text.specs.Lines.{text_of, is_end, first_filled}
use Rattle.mill_model.specs.declared.order.TheConstants.{MAX_ORDERS}
use Rattle.refute_log.specs.Logged.{Logged}
use Rattle.refute_log.specs.Text.{log_lines, IsLogText}
use Rattle.answer_text.specs.declared.answer.Answer.{Answer}
use Rattle.answer_text.specs.declared.answer.Answer.TheVariants.{Optimal, Feasible, Infeasible}
use Rattle.answer_text.specs.Line.{Line, kind, loss, plan, spent, order, spell, AreWithin}

-- the lines of an answer before its log and `end`
abbrev pub lines_of : Answer → List Line
lines_of (Optimal lost slabs refutation) = kind (codes "optimal") ∷ loss lost ∷ plan slabs ∷ []
lines_of (Feasible lost slabs closed) =
    kind (codes "feasible") ∷ loss lost ∷ plan slabs ∷ spent closed ∷ []
lines_of (Infeasible place) = kind (codes "infeasible") ∷ order place ∷ []

-- an answer's log, where it has one
abbrev pub refutation_of : Answer → Option Logged
refutation_of (Optimal lost slabs refutation) = refutation
refutation_of (Feasible lost slabs closed) = None
refutation_of (Infeasible place) = None

-- the lines of a log before `end`, where there is one
abbrev pub lines_of_log : Option Logged → List (List ℕ)
lines_of_log None = []
lines_of_log (Some log) = log_lines (length log.entries) log.entries

-- what is printed of an answer: its lines, those of its log, and `end`
abbrev pub answer_text : Answer → List ℕ
answer_text answer =
    text_of (map spell (lines_of answer)
    ++ (lines_of_log (refutation_of answer) ++ codes "end" ∷ []))

-- an answer's numbers are within the limits, for a number of orders, and its log is for as many
pub record Fits (orders : ℕ) (answer : Answer) : Type 0 where
  pub numbers : AreWithin orders (lines_of answer)
  pub refutation : IfSome (refutation_of answer) (λ log. log.orders ≡ orders)

-- the greatest number of orders that an answer may be for
abbrev pub most_orders : Answer → ℕ
most_orders (Optimal lost slabs refutation) = length slabs
most_orders (Feasible lost slabs closed) = length slabs
most_orders (Infeasible place) = MAX_ORDERS

-- some lines are `end`, and nothing but white space behind it
pub record IsEnding (lines : List (List ℕ)) : Type 0 where
  pub end_line : List ℕ
  pub after : List (List ℕ)
  pub is : lines ≡ end_line ∷ after
  pub ended : is_end end_line ≡ true
  pub blank : first_filled after ≡ None

-- some lines end the text of an answer with this log: they are the log's text; with none, `end`
abbrev pub Ends : Option Logged → List (List ℕ) → Type 0
Ends None lines = IsEnding lines
Ends (Some log) lines = IsLogText log lines

-- some lines are those of an answer and its ending, whatever its numbers
pub record Spells (answer : Answer) (lines : List (List ℕ)) : Type 0 where
  pub ending : List (List ℕ)
  pub is : lines ≡ map spell (lines_of answer) ++ ending
  pub ends : Ends (refutation_of answer) ending

-- some lines are the text that stands for an answer, for a number of orders
pub record IsAnswerText (orders : ℕ) (answer : Answer) (lines : List (List ℕ)) : Type 0 where
  pub spells : Spells answer lines
  pub fits : Fits orders answer
