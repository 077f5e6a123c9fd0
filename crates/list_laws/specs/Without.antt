-- Lists that a number is taken out of.
use Rattle.std.specs.Prelude.{ℕ, cond, List, [], ◌∷◌, eqb}

-- a list without a number
abbrev pub without : ℕ → List ℕ → List ℕ
without x [] = []
without x (y ∷ ys) = cond (eqb x y) (without x ys) (y ∷ without x ys)
