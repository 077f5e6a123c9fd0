-- Paths in rising order: compared number by number, a prefix before its extensions.
use Rattle.std.specs.Prelude.{ℕ, Bool, true, false, ◌&&◌, ◌||◌, List, [], ◌∷◌, eqb, ltb, cond}
use Rattle.std.specs.List.{list_all}
use Rattle.std.specs.declared.cmp.Ordering.{Ordering}
use Rattle.std.specs.declared.cmp.Ordering.TheVariants as order

-- whether a path comes before another
abbrev pub comes_before : List ℕ → List ℕ → Bool
comes_before [] [] = false
comes_before [] (h ∷ q) = true
comes_before (g ∷ p) [] = false
comes_before (g ∷ p) (h ∷ q) = ltb g h || (eqb g h && comes_before p q)

-- whether each path comes before all later ones
abbrev pub rises : List (List ℕ) → Bool
rises [] = true
rises (p ∷ ps) = list_all (comes_before p) ps && rises ps

-- how two paths are ordered
abbrev pub path_order : List ℕ → List ℕ → Ordering
path_order [] [] = order.Equal
path_order [] (h ∷ q) = order.Less
path_order (g ∷ p) [] = order.Greater
path_order (g ∷ p) (h ∷ q) =
    cond (ltb g h) order.Less (cond (ltb h g) order.Greater (path_order p q))
