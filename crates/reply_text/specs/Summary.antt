-- What is written of the search of an instance that was made from a seed, and its status.
use Rattle.std.specs.Prelude.{ℕ, List, [], ◌∷◌, ◌++◌, codes, decimal, Option, Some, None}
use Rattle.refute_log.specs.declared.piece.Run.{Run}
use Rattle.reply_text.specs.declared.status.TheConstants.{OPTIMAL, FEASIBLE}
use Rattle.reply_text.specs.declared.summary.Ending.{Ending}
use Rattle.reply_text.specs.declared.summary.Ending.TheVariants.{Optimal, Feasible}
use Rattle.reply_text.specs.declared.summary.Summary.{Summary}

abbrev pub status_of_ending : Ending → ℕ
status_of_ending (Optimal loss) = OPTIMAL
status_of_ending (Feasible loss spent run) = FEASIBLE

-- the lines of an ending: what it is, what its plan loses, and a spent budget
abbrev pub lines_of_ending : Ending → List (List ℕ)
lines_of_ending (Optimal loss) =
    codes "optimal" ∷ (codes "loss " ++ decimal loss) ∷ codes "end" ∷ []
lines_of_ending (Feasible loss spent run) =
    codes "feasible" ∷ (codes "loss " ++ decimal loss) ∷ (codes "spent " ++ decimal spent)
    ∷ codes "end" ∷ []

-- the first line: which instance it is, and what its orders weigh together
abbrev pub first_line : Summary → List ℕ
first_line summary =
    codes "drill seed " ++ decimal summary.seed ++ codes " orders " ++ decimal summary.orders
    ++ codes " weight " ++ decimal summary.weight

-- this line, and those of the ending
abbrev pub lines_of_summary : Summary → List (List ℕ)
lines_of_summary summary = first_line summary ∷ lines_of_ending summary.ending

-- the run that is handed out with an ending
abbrev pub run_behind : Ending → Option Run
run_behind (Optimal loss) = None
run_behind (Feasible loss spent run) = Some run
