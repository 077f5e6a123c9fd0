use Rattle.std.proofs.Common.{◌≡◌, drop}
use Rattle.std.specs.List.{list_any}
use Rattle.search_step.specs.Worker.{WorkerParts}
use Rattle.core_replay.specs.Crew.{has_path}
use Rattle.core_replay.proofs.turns.any_has_path.Given as goal

abbrev pub invariant-loop-worker : goal.invariant-loop-worker
invariant-loop-worker l =
    list_any (λ (w : WorkerParts). has_path w.parts.phase) l.workers
    ≡ list_any (λ (w : WorkerParts). has_path w.parts.phase) (drop l.worker-index l.workers)
