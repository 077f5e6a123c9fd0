-- Greedy starts: first fit and best fit, and what the better of them loses. Both give each order a
-- group in rank, so what they give is a path.
use Rattle.std.specs.Prelude.{ℕ, zero, suc, Bool, List, [], ◌∷◌, ◌++◌, filter, length, min, pos}
use Rattle.std.specs.Prelude.{◌-ℤ◌, int_le, find, unwrap_or, ℤ}
use Rattle.std.specs.List.{list_all}
use Rattle.list_laws.specs.Sets.{below}
use Rattle.mill_model.specs.Slab.{Mill, load, legal}
use Rattle.mill_model.specs.Plan.{slab, loss}
use Rattle.mill_model.specs.Tree.{next_new}
use Rattle.mill_model.specs.declared.order.Order.{Order}

-- the orders of a group of a path once the next order in rank went there
abbrev pub slab_with_next : List Order → List ℕ → ℕ → List Order
slab_with_next ranked path g = slab g (path ++ g ∷ []) ranked

-- whether a group stays legal with the next order
abbrev pub stays_legal : Mill → List Order → List ℕ → ℕ → Bool
stays_legal mill ranked path g = legal mill (slab_with_next ranked path g)

-- the group that first fit gives the next order: the lowest that stays legal, else a new one
abbrev pub first_group : Mill → List Order → List ℕ → ℕ
first_group mill ranked path =
    unwrap_or (find (stays_legal mill ranked path) (below (next_new path))) (next_new path)

-- first fit of the first k orders in rank, and of all
abbrev pub first_fit : Mill → List Order → ℕ → List ℕ
first_fit mill ranked zero = []
first_fit mill ranked (suc k) =
    let path = first_fit mill ranked k in
    path ++ first_group mill ranked path ∷ []

abbrev pub first_fit_path : Mill → List Order → List ℕ
first_fit_path mill ranked = first_fit mill ranked (length ranked)

-- what the next order adds on a group: the charge after minus the charge before
abbrev pub added_charge : (ℕ → ℕ) → List Order → List ℕ → ℕ → ℤ
added_charge charge ranked path g =
    pos (charge (load (slab_with_next ranked path g))) -ℤ pos (charge (load (slab g path ranked)))

-- the groups that stay legal with the next order, and the next new one, by rising number
abbrev pub candidates : Mill → List Order → List ℕ → List ℕ
candidates mill ranked path =
    filter (stays_legal mill ranked path) (below (next_new path)) ++ next_new path ∷ []

-- whether the next order adds no more on a group than on each of some others
abbrev pub adds_least : (ℕ → ℕ) → List Order → List ℕ → List ℕ → ℕ → Bool
adds_least charge ranked path others g =
    list_all (λ h. int_le (added_charge charge ranked path g) (added_charge charge ranked path h))
    others

-- the group that best fit gives the next order: of the candidates that add least the lowest
abbrev pub best_group : Mill → (ℕ → ℕ) → List Order → List ℕ → ℕ
best_group mill charge ranked path =
    let groups = candidates mill ranked path in
    unwrap_or (find (adds_least charge ranked path groups) groups) (next_new path)

-- best fit of the first k orders in rank, and of all
abbrev pub best_fit : Mill → (ℕ → ℕ) → List Order → ℕ → List ℕ
best_fit mill charge ranked zero = []
best_fit mill charge ranked (suc k) =
    let path = best_fit mill charge ranked k in
    path ++ best_group mill charge ranked path ∷ []

abbrev pub best_fit_path : Mill → (ℕ → ℕ) → List Order → List ℕ
best_fit_path mill charge ranked = best_fit mill charge ranked (length ranked)

-- what the two lose, and the lesser of both
abbrev pub first_fit_loss : Mill → (ℕ → ℕ) → List Order → ℕ
first_fit_loss mill charge ranked = loss charge (first_fit_path mill ranked) ranked

abbrev pub best_fit_loss : Mill → (ℕ → ℕ) → List Order → ℕ
best_fit_loss mill charge ranked = loss charge (best_fit_path mill charge ranked) ranked

abbrev pub best_start_loss : Mill → (ℕ → ℕ) → List Order → ℕ
best_start_loss mill charge ranked =
    min (first_fit_loss mill charge ranked) (best_fit_loss mill charge ranked)
