-- Small instances, at which the definitions are computed.
use Rattle.std.specs.Prelude.{ℕ, zero, suc, Bool, not, ◌||◌, List, [], ◌∷◌, map, flat_map, leb}
use Rattle.list_laws.specs.Sets.{below}
use Rattle.mill_model.specs.Slab.{Mill}
use Rattle.mill_model.specs.Plan.{legal_plan, loss}
use Rattle.mill_model.specs.Instance.{loss_charge}
use Rattle.mill_model.specs.declared.order.Order.{Order}

abbrev pub order : ℕ → ℕ → Order
order weight colour = record { weight = weight; colour = colour }

-- what a load is charged where 4 is the one size
abbrev pub four : ℕ → ℕ
four = loss_charge (4 ∷ [])

abbrev pub three_mill : Mill
three_mill = record { largest = 4; most_colours = 2 }

abbrev pub three_orders : List Order
three_orders = order 1 1 ∷ order 1 2 ∷ order 2 3 ∷ []

-- the first and the last of them
abbrev pub two_orders : List Order
two_orders = order 1 1 ∷ order 2 3 ∷ []

-- twenty sizes, and six orders
abbrev pub twenty_sizes : List ℕ
twenty_sizes =
    12 ∷ 14 ∷ 17 ∷ 18 ∷ 19 ∷ 20 ∷ 23 ∷ 24 ∷ 25 ∷ 26 ∷ 27 ∷ 28 ∷ 29 ∷ 30 ∷ 32 ∷ 35 ∷ 39 ∷ 42 ∷ 43
    ∷ 44 ∷ []

abbrev pub six_orders : List Order
six_orders = order 4 1 ∷ order 22 2 ∷ order 9 3 ∷ order 5 4 ∷ order 8 5 ∷ order 4 5 ∷ []

-- every list of so many numbers below 3
abbrev pub every_plan : ℕ → List (List ℕ)
every_plan zero = [] ∷ []
every_plan (suc n) = flat_map (λ plan. map (λ s. s ∷ plan) (below 3)) (every_plan n)

-- whether a plan of the three orders isn't legal, or loses at least a bound
abbrev pub loses_at_least : ℕ → List ℕ → Bool
loses_at_least bound plan =
    not (legal_plan three_mill plan three_orders) || leb bound (loss four plan three_orders)
