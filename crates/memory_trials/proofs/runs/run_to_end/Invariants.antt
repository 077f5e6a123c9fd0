use Rattle.memory_trials.specs.Kept.{GoesOn}
use Rattle.memory_trials.proofs.runs.run_to_end.Given as goal

abbrev pub invariant-loop : goal.invariant-loop
invariant-loop l = GoesOn l.fn.worker.ranked l.worker l.hand
