-- The line that says how the program is used.
use Rattle.std.specs.Prelude.{ℕ, List, [], ◌∷◌, ◌++◌, codes}

-- it ends with a line feed
abbrev pub usage_line : List ℕ
usage_line =
    codes "usage: mill_slab solve|prove|check|verify|replay|drill [--workers N] [--nodes N]"
    ++ codes " [--colours N] [--moves N] [--seed N] [--orders N]" ++ 10 ∷ []

-- a name between two texts
abbrev pub between : List ℕ → List ℕ → List ℕ → List ℕ
between before name behind = before ++ (name ++ behind)
