use Rattle.std.proofs.Common.{◌≡◌}
use Rattle.std.specs.List.{AllByRecursion}
use Rattle.search_step.specs.Serving.{IsPathOf}
use Rattle.core_replay.specs.Crew.{with_all_given}
use Rattle.core_replay.proofs.crew.Crew.give_all.Given as goal

-- with the paths that are left, the crew has all
abbrev pub invariant-loop-path : goal.invariant-loop-path
invariant-loop-path l =
    (with_all_given l.self l.path-iterator.rest.items
    ≡ with_all_given l.initial.self l.fn.paths.items)
    × AllByRecursion (IsPathOf l.self.ranked) l.path-iterator.rest.items
