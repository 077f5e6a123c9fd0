use Rattle.std.proofs.Common.{◌≡◌, ◌++◌, Ok, Result, map}
use Rattle.mill_model.specs.declared.memory.OutOfMemory.{OutOfMemory}
use Rattle.running_worker.specs.declared.job.JobEnd.{JobEnd}
use Rattle.steal_workers.proofs.parting.all_ends.Given as goal

abbrev pub ended : JobEnd → Result JobEnd OutOfMemory
ended end = Ok end

abbrev pub invariant-loop-ended : goal.invariant-loop-ended
invariant-loop-ended l =
    l.fn.results.items ≡ map ended l.ends.items ++ l.ended-iterator.rest.items
