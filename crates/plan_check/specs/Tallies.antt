-- Slabs and colours as pairs.
use Rattle.std.specs.Prelude.{ℕ, ◌≡◌, cond, List, [], ◌∷◌, map, length, eqb}
use Rattle.list_laws.specs.Sets.{holds, different}
use Rattle.mill_model.specs.declared.order.Order.{Order}

-- the colours that stand beside slab s
abbrev pub colours_on : ℕ → List (ℕ × ℕ) → List ℕ
colours_on s [] = []
colours_on s (pair ∷ pairs) = cond (eqb s pair.0) (pair.1 ∷ colours_on s pairs) (colours_on s pairs)

-- the colours of some orders stand beside slab s, each once
pub record HasColoursOnce (orders : List Order) (s : ℕ) (pairs : List (ℕ × ℕ)) : Type 0 where
  pub each : (colour : ℕ) → holds colour (colours_on s pairs)
      ≡ holds colour (map (λ order. order.colour) orders)
  pub once : different (colours_on s pairs) ≡ length (colours_on s pairs)
