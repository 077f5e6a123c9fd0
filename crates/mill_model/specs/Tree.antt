-- Paths, the tree of paths, and the canonical form of a plan.
use Rattle.std.specs.Prelude.{ℕ, suc, Bool, true, cond, ◌&&◌, ◌||◌, List, [], ◌∷◌, ◌++◌, map}
use Rattle.std.specs.Prelude.{filter, length, take, drop, eqb, leb, ltb, max}
use Rattle.list_laws.specs.Sets.{different, below, same_list}
use Rattle.mill_model.specs.Slab.{Mill, legal}
use Rattle.mill_model.specs.Plan.{slab}
use Rattle.mill_model.specs.Rank.{starts_class_in}
use Rattle.mill_model.specs.declared.order.Order.{Order}

-- the next new group number of a path: one more than each of its numbers
abbrev pub next_new : List ℕ → ℕ
next_new [] = 0
next_new (g ∷ path) = max (suc g) (next_new path)

-- the last number of a path
abbrev pub last_number : List ℕ → ℕ
last_number [] = 0
last_number (g ∷ []) = g
last_number (g ∷ h ∷ path) = last_number (h ∷ path)

-- Whether a path may go on with the group number g: an order is still to come, the number is that
-- of a group or the next new one, the group stays legal, and within a class g is not below the last
-- number.
abbrev pub may_go_on : Mill → List Order → List ℕ → ℕ → Bool
may_go_on mill ranked path g =
    ltb (length path) (length ranked)
    && leb g (next_new path)
    && legal mill (slab g (path ++ g ∷ []) ranked)
    && (starts_class_in (length path) ranked || leb (last_number path) g)

-- the orders that a path has not placed yet, in rank
abbrev pub later_orders : List Order → List ℕ → List Order
later_orders ranked path = drop (length path) ranked

-- the children of a path, by rising last number; none once each order is placed
abbrev pub children : Mill → List Order → List ℕ → List (List ℕ)
children mill ranked path =
    map (λ g. path ++ g ∷ []) (filter (may_go_on mill ranked path) (below (suc (next_new path))))

-- whether a path can be gone on with these numbers, one after another
abbrev pub goes_on : Mill → List Order → List ℕ → List ℕ → Bool
goes_on mill ranked path [] = true
goes_on mill ranked path (g ∷ more) =
    may_go_on mill ranked path g && goes_on mill ranked (path ++ g ∷ []) more

-- whether a path is reached from the empty one
abbrev pub in_tree : Mill → List Order → List ℕ → Bool
in_tree mill ranked path = goes_on mill ranked [] path

-- what stands before the first s
abbrev pub before_first_of : ℕ → List ℕ → List ℕ
before_first_of s [] = []
before_first_of s (t ∷ plan) = cond (eqb s t) [] (t ∷ before_first_of s plan)

-- a plan with its slabs numbered by first appearance
abbrev pub canonical : List ℕ → List ℕ
canonical plan = map (λ s. different (before_first_of s plan)) plan

-- whether a plan lies under a path, which is then a prefix of its canonical form
abbrev pub lies_under : List ℕ → List ℕ → Bool
lies_under path plan = same_list path (take (length path) (canonical plan))
