-- Small instances, with their logs, at which the definitions are computed.
use Rattle.std.specs.Prelude.{ℕ, Bool, List, [], ◌∷◌, ◌++◌, ℤ, pos}
use Rattle.mill_model.specs.Slab.{Mill}
use Rattle.mill_model.specs.Prices.{worth}
use Rattle.mill_model.specs.LiveKey.{same_live_key}
use Rattle.mill_model.specs.Bounds.{swept}
use Rattle.mill_model.specs.Rank.{ranked_orders}
use Rattle.list_laws.specs.Sets.{same_list, same_times}
use Rattle.mill_model.specs.Log.{Task, recorded, split_children}
use Rattle.mill_model.specs.Conserved.{joined}
use Rattle.mill_model.specs.Small.{order, four, three_mill, three_orders}
use Rattle.mill_model.specs.declared.order.Order.{Order}
use Rattle.mill_model.specs.declared.closing.Closing.{Closing}
use Rattle.mill_model.specs.declared.closing.Closing.TheVariants.{Split, Leaf, Priced, Dominated}
use Rattle.mill_model.specs.declared.closing.Entry.{Entry}
use Rattle.mill_model.specs.Log.{task_of_orders}

-- a mill whose largest size is 4, with one colour a slab
abbrev pub one_colour : Mill
one_colour = record { largest = 4; most_colours = 1 }

-- a record
abbrev pub entry : List ℕ → Closing → Entry
entry path closing = record { path = path; closing = closing }

-- of a task: what prices at a path are worth, and those after a sweep; whether two paths have one
-- live key
abbrev pub worth_at : Task → List ℕ → List ℤ → ℤ
worth_at task path prices = worth task.mill task.charge task.ranked path prices

abbrev pub swept_at : Task → List ℕ → List ℤ → List ℤ
swept_at task path prices = swept task.mill task.charge task.ranked path prices

abbrev pub same_key : Task → List ℕ → List ℕ → Bool
same_key task path other = same_live_key task.mill task.ranked path other

-- whether recorded and open paths are, as a multiset, the empty path and the children of the split
abbrev pub balances : Task → List (List Entry) → List (List ℕ) → Bool
balances task pieces unclosed =
    same_times same_list (recorded (joined pieces) ++ unclosed)
    ([] ∷ split_children task (joined pieces))

-- The orders (1, 1), (1, 2) and (2, 3) with two colours a slab: in rank (2, 3), (1, 1), (1, 2).
abbrev pub three_ranked : List Order
three_ranked = ranked_orders three_orders

abbrev pub three_task : Task
three_task = task_of_orders three_mill four three_orders

-- a slab with the orders (2, 3) and (1, 1), which is full for another colour, and the last order
abbrev pub full_group : List Order
full_group = order 2 3 ∷ order 1 1 ∷ []

abbrev pub last_order : List Order
last_order = order 1 2 ∷ []

-- A log of them. With the orders (2, 3) and (1, 1) on one slab, (1, 2) can't join them: it is
-- closed by a price.
abbrev pub seven_lines : ℤ → List Entry
seven_lines price =
    entry [] Split
    ∷ entry (0 ∷ []) Split
    ∷ entry (0 ∷ 0 ∷ []) (Priced (price ∷ []))
    ∷ entry (0 ∷ 1 ∷ []) Split
    ∷ entry (0 ∷ 1 ∷ 0 ∷ []) Leaf
    ∷ entry (0 ∷ 1 ∷ 1 ∷ []) Leaf
    ∷ entry (0 ∷ 1 ∷ 2 ∷ []) Leaf
    ∷ []

-- The orders (3, 1), (1, 2), (1, 3) and (1, 4), of which one may join the first. It doesn't matter
-- which: the path 0 1 0 is dominated by 0 0 1.
abbrev pub four_orders : List Order
four_orders = order 3 1 ∷ order 1 2 ∷ order 1 3 ∷ order 1 4 ∷ []

abbrev pub four_task : Task
four_task = task_of_orders three_mill four four_orders

abbrev pub ten_lines : List Entry
ten_lines =
    entry [] Split
    ∷ entry (0 ∷ []) Split
    ∷ entry (0 ∷ 0 ∷ []) Split
    ∷ entry (0 ∷ 0 ∷ 1 ∷ []) Split
    ∷ entry (0 ∷ 0 ∷ 1 ∷ 1 ∷ []) Leaf
    ∷ entry (0 ∷ 0 ∷ 1 ∷ 2 ∷ []) Leaf
    ∷ entry (0 ∷ 1 ∷ []) Split
    ∷ entry (0 ∷ 1 ∷ 0 ∷ []) (Dominated (0 ∷ 0 ∷ 1 ∷ []))
    ∷ entry (0 ∷ 1 ∷ 1 ∷ []) (Priced (pos 0 ∷ []))
    ∷ entry (0 ∷ 1 ∷ 2 ∷ []) (Priced (pos 0 ∷ []))
    ∷ []

-- The orders (2, 1), (1, 1), (1, 2) and (1, 2) with one colour a slab: the last two are one class.
abbrev pub class_orders : List Order
class_orders = order 2 1 ∷ order 1 1 ∷ order 1 2 ∷ order 1 2 ∷ []

abbrev pub class_task : Task
class_task = task_of_orders one_colour four class_orders

-- The orders (3, 2) and (1, 1) with one colour a slab.
abbrev pub two_task : Task
two_task = task_of_orders one_colour four (order 3 2 ∷ order 1 1 ∷ [])

-- orders of which two and two are equal
abbrev pub tied_orders : List Order
tied_orders = order 1 5 ∷ order 2 1 ∷ order 1 5 ∷ order 2 1 ∷ order 1 2 ∷ []
