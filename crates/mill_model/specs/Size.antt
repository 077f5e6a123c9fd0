-- How many paths a thrifty search can take.
use Rattle.std.specs.Prelude.{ℕ, zero, suc, ◌+◌, ◌*◌, Bool, cond, List, [], ◌∷◌, map, length, pos}
use Rattle.std.specs.Prelude.{◌-ℤ◌, ◌*ℤ◌, int_le}
use Rattle.mill_model.specs.Tree.{children}
use Rattle.mill_model.specs.Bounds.{ascent_worth}
use Rattle.mill_model.specs.Log.{Task}

-- the sum of a list
abbrev pub sum_list : List ℕ → ℕ
sum_list [] = 0
sum_list (x ∷ xs) = x + sum_list xs

-- the paths from one path on, down to d numbers more, where only paths that pass a test have
-- children
unfoldable pub size : Task → (List ℕ → Bool) → ℕ → List ℕ → ℕ
size task test zero path = 1
size task test (suc d) path =
    let below = sum_list (map (size task test d) (children task.mill task.ranked path)) in
    suc (cond (test path) below 0)

-- whether the ascent at a path is worth no more than 60 * (start - 1), so that it may be split
abbrev pub may_split : Task → ℕ → List ℕ → Bool
may_split task start path =
    int_le (ascent_worth task.mill task.charge task.ranked path) (pos 60 *ℤ (pos start -ℤ pos 1))

-- how many paths the thrifty tree has
abbrev pub thrifty_size : Task → ℕ → ℕ
thrifty_size task start = size task (may_split task start) (length task.ranked) []

-- n!
abbrev pub factorial : ℕ → ℕ
factorial zero = 1
factorial (suc n) = suc n * factorial n

-- 0! + 1! + .. + n!
abbrev pub enough : ℕ → ℕ
enough zero = 1
enough (suc n) = enough n + factorial (suc n)
