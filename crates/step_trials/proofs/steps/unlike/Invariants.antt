use Rattle.step_trials.specs.Kept.{GoesOn}
use Rattle.step_trials.proofs.steps.unlike.Given as goal

abbrev pub invariant-loop-place : goal.invariant-loop-place
invariant-loop-place l = GoesOn l.fn.worker.ranked l.worker l.hand
