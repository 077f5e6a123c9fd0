use Rattle.step_trials.specs.Kept.{GoesOn}
use Rattle.step_trials.proofs.runs.close_one.Given as goal

abbrev pub invariant-loop : goal.invariant-loop
invariant-loop l = GoesOn l.fn.worker.ranked l.worker l.hand
