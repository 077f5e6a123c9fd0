use Rattle.step_trials.specs.Kept.{GoesOn}
use Rattle.step_trials.proofs.runs.are_closed_in_turn.Given as goal

abbrev pub invariant-loop-numbers : goal.invariant-loop-numbers
invariant-loop-numbers l = GoesOn l.ranked l.worker l.hand
