-- The least numbers over sets of orders, the ascent and the sweep of prices.
use Rattle.std.specs.Prelude.{ℕ, zero, suc, Bool, false, not, List, [], ◌∷◌, ◌++◌, map, filter}
use Rattle.std.specs.Prelude.{length, get_or, set, replicate, ℤ, pos, ◌+ℤ◌, ◌-ℤ◌, Option, Some}
use Rattle.std.specs.Prelude.{None, flat_map}
use Rattle.std.specs.List.{list_any}
use Rattle.list_laws.specs.Sets.{int_sum, int_total, below}
use Rattle.mill_model.specs.Slab.{Mill}
use Rattle.mill_model.specs.Plan.{slab}
use Rattle.mill_model.specs.Tree.{later_orders, next_new}
use Rattle.mill_model.specs.Prices.{slack, legal_sets, least, least_slack, worth}
use Rattle.mill_model.specs.declared.order.Order.{Order}

-- whether a set holds thing i
abbrev pub in_set : ℕ → List Bool → Bool
in_set i set = get_or set i false

-- the least of some numbers, if there are any
abbrev pub least_of : List ℤ → Option ℤ
least_of [] = None
least_of (x ∷ xs) = Some (least x xs)

-- the slacks of a group over the sets that pass a test and are legal with it
abbrev pub slacks : Mill → (ℕ → ℕ) → List Order → List Order → List ℤ → (List Bool → Bool) → List ℤ
slacks mill charge group rest prices test =
    map (slack charge group rest prices) (filter test (legal_sets mill group rest))

-- the least slack of a new slab that is not empty, and of one that holds thing i
abbrev pub least_new : Mill → (ℕ → ℕ) → List Order → List ℤ → Option ℤ
least_new mill charge rest prices =
    least_of (slacks mill charge [] rest prices (list_any (λ mark. mark)))

abbrev pub least_new_with : Mill → (ℕ → ℕ) → List Order → List ℤ → ℕ → Option ℤ
least_new_with mill charge rest prices i = least_of (slacks mill charge [] rest prices (in_set i))

-- the least slack of a group over the sets that hold thing i, and over those that do not
abbrev pub least_on_with : Mill → (ℕ → ℕ) → List Order → List Order → List ℤ → ℕ → Option ℤ
least_on_with mill charge group rest prices i =
    least_of (slacks mill charge group rest prices (in_set i))

abbrev pub least_on_without : Mill → (ℕ → ℕ) → List Order → List Order → List ℤ → ℕ → Option ℤ
least_on_without mill charge group rest prices i =
    least_of (slacks mill charge group rest prices (λ set. not (in_set i set)))

-- a number that there is, or 0 where there is none
abbrev pub or_zero : Option ℤ → ℤ
or_zero None = pos 0
or_zero (Some x) = x

-- a price of zero for each order
abbrev pub no_prices : List Order → List ℤ
no_prices rest = replicate (length rest) (pos 0)

-- the least slack of a group of a path where all prices are zero
abbrev pub first_slack : Mill → (ℕ → ℕ) → List Order → List ℕ → ℕ → ℤ
first_slack mill charge ranked path g =
    least_slack mill charge (slab g path ranked) (later_orders ranked path)
    (no_prices (later_orders ranked path))

-- the slacks of a group over the sets that hold order i of the rest
abbrev pub slacks_on : Mill → (ℕ → ℕ) → List Order → List ℕ → List ℤ → ℕ → ℕ → List ℤ
slacks_on mill charge ranked path prices i g =
    slacks mill charge (slab g path ranked) (later_orders ranked path) prices (in_set i)

-- the slacks of the sets that hold order i: of new slabs, and of the groups of the path, these
-- less what the group is sure to lose
abbrev pub ascent_slacks : Mill → (ℕ → ℕ) → List Order → List ℕ → List ℤ → ℕ → List ℤ
ascent_slacks mill charge ranked path prices i =
    slacks mill charge [] (later_orders ranked path) prices (in_set i)
    ++ flat_map
    (λ g. map (λ s. s -ℤ first_slack mill charge ranked path g)
    (slacks_on mill charge ranked path prices i g))
    (below (next_new path))

-- the ascent's prices of the first i orders of the rest, in rank; the others are still zero
abbrev pub ascent : Mill → (ℕ → ℕ) → List Order → List ℕ → ℕ → List ℤ
ascent mill charge ranked path zero = no_prices (later_orders ranked path)
ascent mill charge ranked path (suc i) =
    let prices = ascent mill charge ranked path i in
    set prices i (or_zero (least_of (ascent_slacks mill charge ranked path prices i)))

-- the ascent's prices and what they are worth
abbrev pub ascent_prices : Mill → (ℕ → ℕ) → List Order → List ℕ → List ℤ
ascent_prices mill charge ranked path =
    ascent mill charge ranked path (length (later_orders ranked path))

abbrev pub ascent_worth : Mill → (ℕ → ℕ) → List Order → List ℕ → ℤ
ascent_worth mill charge ranked path =
    int_total (next_new path) (first_slack mill charge ranked path)
    +ℤ int_sum (ascent_prices mill charge ranked path)

-- the groups of a path that order i of the rest may join: some legal set with the group holds it
abbrev pub joinable : Mill → List Order → List ℕ → ℕ → List ℕ
joinable mill ranked path i =
    filter (λ g. list_any (in_set i) (legal_sets mill (slab g path ranked)
    (later_orders ranked path)))
    (below (next_new path))

-- how much more a group loses at least with order i than without it
abbrev pub joining_cost : Mill → (ℕ → ℕ) → List Order → List ℕ → List ℤ → ℕ → ℕ → ℤ
joining_cost mill charge ranked path prices i g =
    let rest = later_orders ranked path in
    or_zero (least_on_with mill charge (slab g path ranked) rest prices i)
    -ℤ or_zero (least_on_without mill charge (slab g path ranked) rest prices i)

-- the price that a sweep gives order i of the rest, from prices where it is zero
abbrev pub swept_price : Mill → (ℕ → ℕ) → List Order → List ℕ → List ℤ → ℕ → ℤ
swept_price mill charge ranked path prices i =
    or_zero (least_of
    (slacks mill charge [] (later_orders ranked path) prices (in_set i)
    ++ map (joining_cost mill charge ranked path prices i) (joinable mill ranked path i)))

-- the prices after a sweep of the first i orders of the rest
abbrev pub sweep : Mill → (ℕ → ℕ) → List Order → List ℕ → List ℤ → ℕ → List ℤ
sweep mill charge ranked path prices zero = prices
sweep mill charge ranked path prices (suc i) =
    let swept = sweep mill charge ranked path prices i in
    set swept i (swept_price mill charge ranked path (set swept i (pos 0)) i)

-- the prices after a sweep of all orders of the rest
abbrev pub swept : Mill → (ℕ → ℕ) → List Order → List ℕ → List ℤ → List ℤ
swept mill charge ranked path prices = sweep mill charge ranked path prices (length prices)

-- the ascent's prices after one sweep, and what they are worth
abbrev pub swept_prices : Mill → (ℕ → ℕ) → List Order → List ℕ → List ℤ
swept_prices mill charge ranked path =
    swept mill charge ranked path (ascent_prices mill charge ranked path)

abbrev pub swept_worth : Mill → (ℕ → ℕ) → List Order → List ℕ → ℤ
swept_worth mill charge ranked path =
    worth mill charge ranked path (swept_prices mill charge ranked path)
