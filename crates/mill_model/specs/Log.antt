-- Logs of records, and what they refute.
use Rattle.std.specs.Prelude.{ℕ, ◌+◌, ◌≡◌, Bool, true, false, not, ◌&&◌, ◌||◌, List, [], ◌∷◌, ◌++◌}
use Rattle.std.specs.Prelude.{length, eqb, leb, ltb, pos, ◌-ℤ◌, ◌*ℤ◌, int_lt}
use Rattle.std.specs.List.{AllByRecursion}
use Rattle.list_laws.specs.Sets.{same_list, SameTimes}
use Rattle.mill_model.specs.Slab.{Mill}
use Rattle.mill_model.specs.Plan.{loss}
use Rattle.mill_model.specs.Instance.{Problem, mill_of}
use Rattle.mill_model.specs.Rank.{ranked_orders, starts_class_in}
use Rattle.mill_model.specs.Tree.{children, in_tree, later_orders}
use Rattle.mill_model.specs.Prices.{valid, worth}
use Rattle.mill_model.specs.LiveKey.{same_live_key, dead_loss}
use Rattle.mill_model.specs.declared.order.Order.{Order}
use Rattle.mill_model.specs.declared.closing.Entry.{Entry}
use Rattle.mill_model.specs.declared.closing.Closing.{Closing}
use Rattle.mill_model.specs.declared.closing.Closing.TheVariants.{Split, Leaf, Priced, Dominated}

-- what a log is judged by: the mill, the charge of each load, and the orders in rank
pub record Task : Type 0 where
  pub mill : Mill
  pub charge : ℕ → ℕ
  pub ranked : List Order

-- what the logs of some orders are judged by, which then stand in rank
abbrev pub task_of_orders : Mill → (ℕ → ℕ) → List Order → Task
task_of_orders mill charge orders =
    record { mill = mill; charge = charge; ranked = ranked_orders orders }

-- what the logs of an instance are judged by, for a charge of each load
abbrev pub task_of : Problem → (ℕ → ℕ) → Task
task_of problem charge = task_of_orders (mill_of problem) charge problem.orders

-- whether a record is sound for a loss; its path is in the tree
abbrev pub sound : Task → ℕ → List ℕ → Closing → Bool
sound task bound path Split = ltb (length path) (length task.ranked)
sound task bound path Leaf =
    eqb (length path) (length task.ranked) && leb bound (loss task.charge path task.ranked)
sound task bound path (Priced prices) =
    eqb (length path + length prices) (length task.ranked)
    && valid task.mill task.charge (later_orders task.ranked path) prices
    && int_lt (pos 60 *ℤ (pos bound -ℤ pos 1)) (worth task.mill task.charge task.ranked path prices)
sound task bound path (Dominated other) =
    in_tree task.mill task.ranked other
    && eqb (length other) (length path)
    && starts_class_in (length path) task.ranked
    && same_live_key task.mill task.ranked path other
    && leb (dead_loss task.mill task.charge task.ranked other)
    (dead_loss task.mill task.charge task.ranked path)

-- the paths of some records
abbrev pub recorded : List Entry → List (List ℕ)
recorded [] = []
recorded (entry ∷ log) = entry.path ∷ recorded log

-- the children that a record leaves to other records
abbrev pub left_open : Task → List ℕ → Closing → List (List ℕ)
left_open task path Split = children task.mill task.ranked path
left_open task path Leaf = []
left_open task path (Priced prices) = []
left_open task path (Dominated other) = []

-- the children of the paths that are recorded as split
abbrev pub split_children : Task → List Entry → List (List ℕ)
split_children task [] = []
split_children task (entry ∷ log) =
    left_open task entry.path entry.closing ++ split_children task log

-- the recorded paths, as a multiset, are the empty path and the children of the split ones
abbrev pub IsComplete : Task → List Entry → Type 0
IsComplete task log = SameTimes same_list (recorded log) ([] ∷ split_children task log)

-- whether a record says that its path is dominated
abbrev pub is_dominated : Closing → Bool
is_dominated Split = false
is_dominated Leaf = false
is_dominated (Priced prices) = false
is_dominated (Dominated other) = true

-- whether a path has a record that is not dominated
abbrev pub is_settled : List Entry → List ℕ → Bool
is_settled [] path = false
is_settled (entry ∷ log) path =
    (same_list path entry.path && not (is_dominated entry.closing)) || is_settled log path

-- whether what a record names has a record that is not dominated
abbrev pub names_settled : List Entry → Closing → Bool
names_settled log Split = true
names_settled log Leaf = true
names_settled log (Priced prices) = true
names_settled log (Dominated other) = is_settled log other

-- a log refutes a loss
pub record Refutes (task : Task) (bound : ℕ) (log : List Entry) : Type 0 where
  pub complete : IsComplete task log
  pub each_sound : AllByRecursion (λ entry. sound task bound entry.path entry.closing ≡ true) log
  pub each_named : AllByRecursion (λ entry. names_settled log entry.closing ≡ true) log
