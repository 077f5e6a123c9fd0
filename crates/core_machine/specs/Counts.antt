-- What the workers of a machine have, counted.
use Rattle.std.specs.Prelude.{ℕ, ◌+◌, List, [], ◌∷◌, length}
use Rattle.list_laws.specs.Sets.{times, same_list}
use Rattle.mill_model.specs.Log.{Task, split_children}
use Rattle.search_step.specs.Parts.{Parts}
use Rattle.search_step.specs.Accounts.{own_paths, in_work}

abbrev pub sum_of : {X : Type 0} → (X → ℕ) → List X → ℕ
sum_of f [] = 0
sum_of f (x ∷ xs) = f x + sum_of f xs

-- how often a path is a worker's, and how often a child of a path that the worker split
abbrev pub own_count : List ℕ → Parts → ℕ
own_count path w = times same_list path (own_paths w)

abbrev pub split_count : Task → List ℕ → Parts → ℕ
split_count task path w = times same_list path (split_children task w.piece)

-- the records of a worker, with one more where it has a ticket for a path that isn't closed
abbrev pub tickets_of : Parts → ℕ
tickets_of w = length w.piece + in_work w.phase
