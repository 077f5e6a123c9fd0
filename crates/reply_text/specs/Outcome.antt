-- The status and the text of each outcome.
use Rattle.std.specs.Prelude.{ℕ, List, [], ◌∷◌, ◌++◌, cond, Option, None}
use Rattle.refute_log.specs.declared.piece.Run.{Run}
use Rattle.answer_text.specs.declared.answer.Answer.{Answer}
use Rattle.answer_text.specs.declared.answer.Answer.TheVariants.{Optimal, Feasible, Infeasible}
use Rattle.answer_text.specs.Text.{answer_text, most_orders, Fits}
use Rattle.line_text.specs.Lines as lines
use Rattle.reply_text.specs.declared.status.TheConstants.{OPTIMAL, INFEASIBLE, FEASIBLE, REFUSED}
use Rattle.reply_text.specs.declared.status.TheConstants.{ACCEPTED, REJECTED}
use Rattle.reply_text.specs.declared.outcome.Outcome.{Outcome}
use Rattle.reply_text.specs.declared.outcome.Outcome.TheVariants.{Refused, Solved, Judged}
use Rattle.reply_text.specs.declared.outcome.Outcome.TheVariants.{Drilled}
use Rattle.reply_text.specs.Refusal.{words_of_refusal}
use Rattle.reply_text.specs.Judgement.{is_accepted, words_of_judgement}
use Rattle.reply_text.specs.Summary.{lines_of_summary, run_behind, status_of_ending}

abbrev pub status_of_answer : Answer → ℕ
status_of_answer (Optimal loss plan refutation) = OPTIMAL
status_of_answer (Infeasible order) = INFEASIBLE
status_of_answer (Feasible loss plan spent) = FEASIBLE

abbrev pub status_of : Outcome → ℕ
status_of (Refused why) = REFUSED
status_of (Solved solution) = status_of_answer solution.answer
status_of (Judged judgement) = cond (is_accepted judgement) ACCEPTED REJECTED
status_of (Drilled summary) = status_of_ending summary.ending

-- a line of a text, which ends with a line feed
abbrev pub line : List ℕ → List ℕ
line words = words ++ 10 ∷ []

abbrev pub text_of : Outcome → List ℕ
text_of (Refused why) = line (words_of_refusal why)
text_of (Solved solution) = answer_text solution.answer
text_of (Judged judgement) = line (words_of_judgement judgement)
text_of (Drilled summary) = lines.text_of (lines_of_summary summary)

-- the numbers of an answer are within the limits of its text
abbrev pub IsToldAnswer : Answer → Type 0
IsToldAnswer answer = Fits (most_orders answer) answer

-- the outcome can be told by its text
abbrev pub IsToTell : Outcome → Type 0
IsToTell (Refused why) = Unit {0}
IsToTell (Solved solution) = IsToldAnswer solution.answer
IsToTell (Judged judgement) = Unit {0}
IsToTell (Drilled summary) = Unit {0}

-- the run that is handed out
abbrev pub run_of : Outcome → Option Run
run_of (Refused why) = None
run_of (Solved solution) = solution.run
run_of (Judged judgement) = None
run_of (Drilled summary) = run_behind summary.ending
