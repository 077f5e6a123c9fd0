use Rattle.std.proofs.Common.{◌≡◌, true, List, ℕ, ◌∷◌, ◌++◌, map, length, codes}
use Rattle.std.specs.List.{list_all}
use Rattle.line_text.specs.Numbers.{value}
use Rattle.schedule_text.specs.Text.{tokens_of, is_worker}
use Rattle.schedule_text.proofs.read.read_schedule.Given as goal

-- the tokens so far are the numbers of workers, and those of the schedule
abbrev pub invariant-loop-token : goal.invariant-loop-token
invariant-loop-token l =
    (numbers : List (List ℕ)) × (tokens_of l.text ≡ codes "schedule" ∷ (numbers ++ l.tokens))
    × (list_all (is_worker l.workers) numbers ≡ true) × (map value numbers ≡ l.schedule.items)

abbrev pub decreases-loop-token : goal.decreases-loop-token
decreases-loop-token l = length l.tokens
