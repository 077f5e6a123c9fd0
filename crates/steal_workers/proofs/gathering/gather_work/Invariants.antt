use Rattle.std.proofs.Common.{◌≡◌, ◌++◌, flat_map, map}
use Rattle.refute_log.specs.Pieces.{Pieced}
use Rattle.search_step.specs.Leaving.{paths_left}
use Rattle.search_step.specs.declared.worker.WorkerEnd.{WorkerEnd}
use Rattle.steal_workers.specs.Rounds.{best_left}
use Rattle.steal_workers.proofs.gathering.gather_work.Given as goal

-- what was taken from the workers so far, with what is to be taken from the others
abbrev pub invariant-loop-end : goal.invariant-loop-end
invariant-loop-end l = record {
  pieces : map (λ (piece : Pieced). piece.entries) l.pieces.items
      ++ map (λ (end : WorkerEnd). end.piece.entries) l.end-iterator.rest.items
      ≡ map (λ (piece : Pieced). piece.entries) l.fn.pieces.items
      ++ map (λ (end : WorkerEnd). end.piece.entries) l.fn.ends.items;
  unclosed : l.unclosed.items ++ flat_map paths_left l.end-iterator.rest.items
      ≡ l.fn.unclosed.items ++ flat_map paths_left l.fn.ends.items;
  best : best_left l.best l.end-iterator.rest.items ≡ best_left l.fn.start l.fn.ends.items;
}
