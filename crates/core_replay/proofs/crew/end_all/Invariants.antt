use Rattle.std.proofs.Common.{◌≡◌, ◌++◌, flat_map, map}
use Rattle.search_step.specs.Worker.{WorkerParts}
use Rattle.core_machine.specs.Core.{unclosed_by}
use Rattle.core_machine.specs.Kept.{best_of}
use Rattle.core_replay.specs.Crew.{entries_of, parts_of}
use Rattle.core_replay.proofs.crew.end_all.Given as goal

-- what was taken from the workers so far, with what is to be taken from the others
abbrev pub invariant-loop-worker : goal.invariant-loop-worker
invariant-loop-worker l =
    (entries_of l.pieces.items
    ++ map (λ (w : WorkerParts). w.parts.piece) l.worker-iterator.rest.items
    ≡ entries_of l.fn.pieces.items ++ map (λ (w : WorkerParts). w.parts.piece) l.fn.workers.items)
    × (l.unclosed.items
    ++ flat_map (λ (w : WorkerParts). unclosed_by w.parts) l.worker-iterator.rest.items
    ≡ l.fn.unclosed.items
    ++ flat_map (λ (w : WorkerParts). unclosed_by w.parts) l.fn.workers.items)
    × (best_of l.best (parts_of l.worker-iterator.rest.items)
    ≡ best_of l.fn.start (parts_of l.fn.workers.items))
