-- The numbers of which a new price is the least, over the new slabs and the first groups.
use Rattle.std.specs.Prelude.{ℕ, List, [], ◌++◌, map, filter, flat_map, ℤ, pos, ◌-ℤ◌, Bool, false}
use Rattle.std.specs.Prelude.{int_lt, Option, Some, None}
use Rattle.std.specs.List.{list_any}
use Rattle.std.specs.Int.{int_min}
use Rattle.list_laws.specs.Sets.{below}
use Rattle.mill_model.specs.Prices.{legal_sets}
use Rattle.mill_model.specs.Bounds.{slacks, slacks_on, in_set, first_slack, joining_cost}
use Rattle.order_symmetry.specs.Ranked.{orders_of}
use Rattle.split_tree.specs.Node.{Node, group_of}
use Rattle.column_price.specs.Nodes.{rest_of}

-- the lesser of two numbers, where there are any
abbrev pub lesser : Option ℤ → Option ℤ → Option ℤ
lesser None b = b
lesser (Some x) None = Some x
lesser (Some x) (Some y) = Some (int_min x y)

-- a number, if there is one, less another
abbrev pub less : ℤ → Option ℤ → Option ℤ
less z None = None
less z (Some x) = Some (x -ℤ z)

-- whether there is a number below zero
abbrev pub is_negative : Option ℤ → Bool
is_negative None = false
is_negative (Some x) = int_lt x (pos 0)

-- the slacks of the new slabs with order i
abbrev pub new_slacks : Node → (ℕ → ℕ) → List ℤ → ℕ → List ℤ
new_slacks node charge prices i =
    slacks node.ranked.mill charge [] (rest_of node) prices (in_set i)

-- the ascent's slacks of the sets with order i, over the new slabs and the first n groups
abbrev pub ascent_numbers : Node → (ℕ → ℕ) → List ℤ → ℕ → ℕ → List ℤ
ascent_numbers node charge prices i n =
    new_slacks node charge prices i
    ++ flat_map
    (λ g. map (λ s. s -ℤ first_slack node.ranked.mill charge (orders_of node.ranked) node.path g)
    (slacks_on node.ranked.mill charge (orders_of node.ranked) node.path prices i g))
    (below n)

-- the sweep's numbers of order i, over the new slabs and the first n groups
abbrev pub swept_numbers : Node → (ℕ → ℕ) → List ℤ → ℕ → ℕ → List ℤ
swept_numbers node charge prices i n =
    new_slacks node charge prices i
    ++ map (joining_cost node.ranked.mill charge (orders_of node.ranked) node.path prices i)
    (filter
    (λ g. list_any (in_set i) (legal_sets node.ranked.mill (group_of node g) (rest_of node)))
    (below n))
