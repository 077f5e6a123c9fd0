use Rattle.std.proofs.Common.{◌≡◌, ◌++◌}
use Rattle.std.specs.List.{AllByRecursion}
use Rattle.search_step.specs.Serving.{IsPathOf}
use Rattle.steal_workers.proofs.jobs.give_paths.Given as goal

abbrev pub invariant-loop-path : goal.invariant-loop-path
invariant-loop-path l = record {
  same : l.own ≡ record l.fn.own { pushed = l.own.pushed };
  pushed : l.own.pushed ++ l.path-iterator.rest.items
      ≡ l.fn.own.pushed ++ l.fn.paths.items;
  tree : AllByRecursion (IsPathOf l.fn.own.ranked) l.path-iterator.rest.items;
}
