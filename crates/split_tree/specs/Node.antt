-- A node of the tree of paths, and its groups.
use Rattle.std.specs.Prelude.{ℕ, ◌≡◌, ◌≤◌, true, cond, List, length, Some, slice_get}
use Rattle.list_laws.specs.Sets.{total}
use Rattle.mill_model.specs.Slab.{load, legal}
use Rattle.mill_model.specs.Plan.{slab}
use Rattle.mill_model.specs.Rank.{starts_class_in}
use Rattle.mill_model.specs.Tree.{next_new, last_number, in_tree}
use Rattle.mill_model.specs.declared.order.Order.{Order}
use Rattle.order_symmetry.specs.Ranked.{RankedOrders, IsRanked, orders_of}
use Rattle.slab_rules.specs.OpenSlab.{OpenSlab, IsOpenSlab, Carries}

-- ranked orders, and a path of their tree
pub record Node : Type 0 where
  pub ranked : RankedOrders
  pub path : List ℕ

-- what each node keeps
pub record IsNode (node : Node) : Type 0 where
  pub ranked : IsRanked node.ranked
  pub tree : in_tree node.ranked.mill (orders_of node.ranked) node.path ≡ true

-- the orders of a group of a node
abbrev pub group_of : Node → ℕ → List Order
group_of node g = slab g node.path (orders_of node.ranked)

-- the charges of all groups of a node
abbrev pub groups_loss : (ℕ → ℕ) → Node → ℕ
groups_loss charge node = total (next_new node.path) (λ g. charge (load (group_of node g)))

-- an open slab that carries the orders of a group of a node, of the node's mill: they are legal,
-- and there is one at least, so that the slab has a colour
pub record IsGroup (node : Node) (g : ℕ) (group : OpenSlab) : Type 0 where
  pub carries : Carries group (group_of node g)
  pub mill : group.mill ≡ node.ranked.mill
  pub open_slab : IsOpenSlab group
  pub is_legal : legal node.ranked.mill (group_of node g) ≡ true
  pub some_colour : 1 ≤ length group.colours

-- open slabs that are the groups of a node, by rising number
pub record AreGroups (node : Node) (groups : List OpenSlab) : Type 0 where
  pub count : length groups ≡ next_new node.path
  pub each : (g : ℕ) (group : OpenSlab) → slice_get groups g ≡ Some group → IsGroup node g group

-- the least number that a path may go on with: within a class, its last number
abbrev pub least_number : Node → ℕ
least_number node =
    cond (starts_class_in (length node.path) (orders_of node.ranked)) 0 (last_number node.path)
