use Rattle.std.proofs.Common.{◌≡◌, ◌++◌, List, ℕ, flat_map}
use Rattle.core_replay.specs.Lists.{lists_of}
use Rattle.core_replay.proofs.deques.Deques.empty_into.Given as goal

-- the paths so far and those that are left
abbrev pub invariant-loop-deque : goal.invariant-loop-deque
invariant-loop-deque l =
    l.paths.items
    ++ flat_map (λ (list : List (List ℕ)). list) (lists_of l.deque-iterator.rest.items)
    ≡ l.fn.paths.items ++ flat_map (λ (list : List (List ℕ)). list) l.fn.self.lists

abbrev pub invariant-loop-path : goal.invariant-loop-path
invariant-loop-path l =
    l.paths.items ++ l.path-iterator.rest.items
    ≡ l.initial.paths.items ++ l.initial.path-iterator.rest.items
