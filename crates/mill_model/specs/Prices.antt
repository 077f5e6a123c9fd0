-- Prices for the orders from a rank on, and what they prove.
use Rattle.std.specs.Prelude.{ℕ, ◌*◌, Bool, List, [], ◌∷◌, ◌++◌, map, filter, length, ℤ, pos, ◌+ℤ◌}
use Rattle.std.specs.Prelude.{◌-ℤ◌, int_le}
use Rattle.std.specs.List.{list_all}
use Rattle.std.specs.Int.{int_min}
use Rattle.list_laws.specs.Sets.{chosen, sets, int_sum, int_total}
use Rattle.mill_model.specs.Slab.{Mill, load, legal}
use Rattle.mill_model.specs.Plan.{slab}
use Rattle.mill_model.specs.Tree.{later_orders, next_new}
use Rattle.mill_model.specs.declared.order.Order.{Order}

-- 60 times the charge of a group with a set of the rest, less the prices of the set
abbrev pub slack : (ℕ → ℕ) → List Order → List Order → List ℤ → List Bool → ℤ
slack charge group rest prices set =
    pos (60 * charge (load (group ++ chosen set rest))) -ℤ int_sum (chosen set prices)

-- the sets of the rest that are legal together with a group
abbrev pub legal_sets : Mill → List Order → List Order → List (List Bool)
legal_sets mill group rest =
    filter (λ set. legal mill (group ++ chosen set rest)) (sets (length rest))

-- the least of some numbers and one more
abbrev pub least : ℤ → List ℤ → ℤ
least first [] = first
least first (x ∷ xs) = int_min x (least first xs)

-- whether no legal set of the rest has prices above 60 times its charge; the empty set has neither
abbrev pub valid : Mill → (ℕ → ℕ) → List Order → List ℤ → Bool
valid mill charge rest prices =
    list_all (λ set. int_le (pos 0) (slack charge [] rest prices set)) (legal_sets mill [] rest)

-- the least slack of a legal group over all sets of the rest that are legal with it, the empty set
-- included
abbrev pub least_slack : Mill → (ℕ → ℕ) → List Order → List Order → List ℤ → ℤ
least_slack mill charge group rest prices =
    least (slack charge group rest prices [])
    (map (slack charge group rest prices) (legal_sets mill group rest))

-- the worth of prices at a path: what the groups must lose at least, and the prices
abbrev pub worth : Mill → (ℕ → ℕ) → List Order → List ℕ → List ℤ → ℤ
worth mill charge ranked path prices =
    int_total (next_new path)
    (λ g. least_slack mill charge (slab g path ranked) (later_orders ranked path) prices)
    +ℤ int_sum prices
