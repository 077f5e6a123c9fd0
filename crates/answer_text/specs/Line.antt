-- The lines of an answer before `end`.
use Rattle.std.specs.Prelude.{ℕ, ◌≡◌, ◌<◌, ◌≤◌, List, [], ◌∷◌, length, All, codes}
use Rattle.std.specs.List.{AllByRecursion}
use Rattle.std.specs.Fmt.{decimal}
use Rattle.line_text.specs.Words.{line_of}
use Rattle.line_text.specs.Numbers.{ordinal, ordinals}
use Rattle.mill_model.specs.declared.limits.TheConstants.{MAX_NODES}

-- what a line says: which kind of answer this is, a loss, the slab of each order, how many paths
-- were closed, or an order; slabs and orders are counted from 0
pub data Line : Type 0 where
  kind : List ℕ → Line
  loss : ℕ → Line
  plan : List ℕ → Line
  spent : ℕ → Line
  order : ℕ → Line

-- the words of a line, where slabs and orders are counted from 1
abbrev pub words_of : Line → List (List ℕ)
words_of (kind name) = name ∷ []
words_of (loss number) = codes "loss" ∷ decimal number ∷ []
words_of (plan slabs) = codes "plan" ∷ ordinals slabs
words_of (spent number) = codes "spent" ∷ decimal number ∷ []
words_of (order place) = codes "order" ∷ ordinal place ∷ []

abbrev pub spell : Line → List ℕ
spell line = line_of (words_of line)

-- the numbers of a line are within the limits, for a number of orders
abbrev pub IsWithin : ℕ → Line → Type 0
IsWithin orders (kind name) = Unit {0}
IsWithin orders (loss number) = number ≤ 1000000000000
IsWithin orders (plan slabs) = (length slabs ≡ orders) × All (λ slab. slab < orders) slabs
IsWithin orders (spent number) = number ≤ MAX_NODES
IsWithin orders (order place) = place < orders

abbrev pub AreWithin : ℕ → List Line → Type 0
AreWithin orders lines = AllByRecursion (IsWithin orders) lines
