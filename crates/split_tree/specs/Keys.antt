-- Live keys as they are kept: the live groups in one order, each with those of its colours that
-- some later order has, rising.
use Rattle.std.specs.Prelude.{ℕ, ◌-◌, ◌≡◌, Bool, List, ◌++◌, map, filter, length, replicate}
use Rattle.std.specs.Prelude.{Contains}
use Rattle.std.specs.List.Sorted.{IsPermutation, IsSortedByKey, IsStrictlyIncreasing}
use Rattle.std.specs.Cmp.Lexicographic.{slice_cmp}
use Rattle.std.specs.Hash as fed
use Rattle.std.specs.Hash.{HashWrites}
use Rattle.std.specs.Ordering.{nat_cmp, ordering_then, is_eq}
use Rattle.std.specs.declared.cmp.Ordering.{Ordering}
use Rattle.list_laws.specs.Sets.{below}
use Rattle.mill_model.specs.Slab.{load, colours}
use Rattle.mill_model.specs.Tree.{later_orders, next_new}
use Rattle.mill_model.specs.LiveKey.{has_colour, has_live, same_live_key}
use Rattle.mill_model.specs.declared.order.Order.{Order}
use Rattle.order_symmetry.specs.Ranked.{RankedOrders, IsRanked, orders_of}
use Rattle.split_tree.specs.Node.{Node, group_of}
use Rattle.split_tree.specs.declared.live_key.KeyGroup.{KeyGroup}
use Rattle.split_tree.specs.declared.live_key.TheConstants.{NO_COLOUR}

-- how many orders are placed, and the live groups
pub record Key : Type 0 where
  pub depth : ℕ
  pub groups : List KeyGroup

-- groups by load, then number of colours, then their coming colours
abbrev pub group_order : KeyGroup → KeyGroup → Ordering
group_order a b =
    ordering_then (nat_cmp a.load b.load)
    (ordering_then (nat_cmp a.colours b.colours) (slice_cmp nat_cmp a.coming b.coming))

-- keys by depth, then their groups one by one
abbrev pub key_order : Key → Key → Ordering
key_order a b =
    ordering_then (nat_cmp a.depth b.depth) (slice_cmp group_order a.groups b.groups)

-- whether two keys are the same
abbrev pub same_key : Key → Key → Bool
same_key a b = is_eq (key_order a b)

-- what a hasher is fed of a group, and of a key: its depth, how many groups it has, and each group
abbrev pub fed_of_group : KeyGroup → HashWrites
fed_of_group group =
    fed.u32 group.load ++ fed.u16 group.colours ++ fed.slice fed.u16 group.coming

abbrev pub fed_of_key : Key → HashWrites
fed_of_key key = fed.u16 key.depth ++ fed.slice fed_of_group key.groups

-- the given numbers, rising and each once
pub record IsRisingListOf (given list : List ℕ) : Type 0 where
  pub rise : IsStrictlyIncreasing list
  pub kept : (n : ℕ) → Contains given n → Contains list n
  pub only : (n : ℕ) → Contains list n → Contains given n

-- eight places, of which the last ones are empty
abbrev pub padded : List ℕ → List ℕ
padded list = list ++ replicate (8 - length list) NO_COLOUR

-- a group as orders of some colours see it
abbrev pub key_group : List ℕ → List Order → KeyGroup
key_group coming group =
    record {
      load = load group;
      colours = colours group;
      coming = padded (filter (has_colour group) coming);
    }

-- the orders that a node has not placed
abbrev pub rest_of : Node → List Order
rest_of node = later_orders (orders_of node.ranked) node.path

-- the numbers of the live groups of a node
abbrev pub live_numbers : Node → List ℕ
live_numbers node =
    filter (has_live node.ranked.mill (orders_of node.ranked) node.path)
    (below (next_new node.path))

-- a key is that of a node: its groups are the live groups of the node in order
pub record IsLiveKey (node : Node) (key : Key) : Type 0 where
  pub depth : key.depth ≡ length node.path
  pub coming : List ℕ
  pub rising : IsRisingListOf (map (λ order. order.colour) (rest_of node)) coming
  pub groups :
      IsPermutation (map (λ g. key_group coming (group_of node g)) (live_numbers node)) key.groups
  pub sorted : IsSortedByKey (λ group. group) group_order key.groups

-- Keys of two paths of one tree are equal exactly where the live keys of the paths are the same.
abbrev pub EqualKeysAreSameLiveKeys : Type 0
EqualKeysAreSameLiveKeys =
    (ranked : RankedOrders) (q r : List ℕ) (a b : Key) → IsRanked ranked →
    IsLiveKey (record { ranked = ranked; path = q }) a →
    IsLiveKey (record { ranked = ranked; path = r }) b →
    same_key a b ≡ same_live_key ranked.mill (orders_of ranked) q r
