-- Tables of names.
use Rattle.std.specs.Prelude.{ℕ, cond, List, [], ◌∷◌, Option, Some, None}
use Rattle.std.specs.Str.{bytes_eq}

-- what a word stands for: that of the first row with this name
abbrev pub served_as : {T : Type 0} → List (List ℕ × T) → List ℕ → Option T
served_as [] word = None
served_as (row ∷ rows) word = cond (bytes_eq row.0 word) (Some row.1) (served_as rows word)
