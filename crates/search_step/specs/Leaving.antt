-- What a worker leaves, beside what others left.
use Rattle.std.specs.Prelude.{ℕ, cond, ltb, List, ◌++◌, Option, Some, None, option_to_list}
use Rattle.mill_model.specs.declared.plan.Start.{Start}
use Rattle.search_step.specs.declared.worker.WorkerEnd.{WorkerEnd}

-- the paths that a worker held or let wait
abbrev pub paths_left : WorkerEnd → List (List ℕ)
paths_left end = option_to_list end.held ++ end.waiting.items

-- of a plan and one that some worker may have found the one that loses less, of equal ones the
-- first
abbrev pub better_of : Start → Option Start → Start
better_of start None = start
better_of start (Some other) = cond (ltb other.loss start.loss) other start
