-- Laws of the tree of paths: its leaves are enough of the plans, and there aren't too many paths.
use Rattle.std.specs.Prelude.{ℕ, ◌≡◌, ◌≤◌, Bool, true, List, [], length}
use Rattle.mill_model.specs.Slab.{Mill}
use Rattle.mill_model.specs.Plan.{loss, IsLegalPlan}
use Rattle.mill_model.specs.Rank.{ranked_orders}
use Rattle.mill_model.specs.Tree.{in_tree, canonical}
use Rattle.mill_model.specs.Log.{Task}
use Rattle.mill_model.specs.Size.{size, enough}
use Rattle.mill_model.specs.declared.order.Order.{Order}

-- a leaf of the tree: a path that places every order
pub record IsLeaf (mill : Mill) (ranked : List Order) (leaf : List ℕ) : Type 0 where
  pub tree : in_tree mill ranked leaf ≡ true
  pub places_all : length leaf ≡ length ranked

-- For each legal plan of an instance the tree has a leaf that loses the same.
abbrev pub EachPlanHasALeaf : Type 0
EachPlanHasALeaf =
    (mill : Mill) (charge : ℕ → ℕ) (orders : List Order) (plan : List ℕ) →
    charge 0 ≡ 0 → IsLegalPlan mill orders plan →
    (leaf : List ℕ) × IsLeaf mill (ranked_orders orders) leaf
    × (loss charge leaf (ranked_orders orders) ≡ loss charge plan orders)

-- Each leaf of the tree is a legal plan of the ranked orders,
abbrev pub EachLeafIsAPlan : Type 0
EachLeafIsAPlan =
    (mill : Mill) (ranked : List Order) (leaf : List ℕ) →
    IsLeaf mill ranked leaf → IsLegalPlan mill ranked leaf

-- and each path of the tree is its own canonical form.
abbrev pub EachPathIsCanonical : Type 0
EachPathIsCanonical =
    (mill : Mill) (ranked : List Order) (path : List ℕ) →
    in_tree mill ranked path ≡ true → canonical path ≡ path

-- The tree of n orders has at most 0! + 1! + .. + n! paths, also where only paths that pass a test
-- have children.
abbrev pub TreeHasAtMost : Type 0
TreeHasAtMost =
    (task : Task) (test : List ℕ → Bool) →
    size task test (length task.ranked) [] ≤ enough (length task.ranked)
