-- The live key and the plan of a path, computed.
use Rattle.std.specs.Prelude.{ℕ, cond, List, [], ◌∷◌, map, length, eqb, ltb}
use Rattle.std.specs.Ordering.{is_lt}
use Rattle.list_laws.specs.Sets.{below}
use Rattle.mill_model.specs.Rank.{Placed}
use Rattle.order_symmetry.specs.Ranked.{RankedOrders}
use Rattle.split_tree.specs.Node.{Node, group_of}
use Rattle.split_tree.specs.Keys.{Key, group_order, key_group, rest_of, live_numbers}
use Rattle.split_tree.specs.declared.live_key.KeyGroup.{KeyGroup}

-- a number put among rising ones, where it doesn't stand yet
abbrev pub put_rising : ℕ → List ℕ → List ℕ
put_rising x [] = x ∷ []
put_rising x (y ∷ ys) =
    cond (ltb x y) (x ∷ y ∷ ys) (cond (eqb x y) (y ∷ ys) (y ∷ put_rising x ys))

-- numbers in rising order, each once
abbrev pub in_rise : List ℕ → List ℕ
in_rise [] = []
in_rise (x ∷ xs) = put_rising x (in_rise xs)

-- a group put among sorted ones
abbrev pub put_group : KeyGroup → List KeyGroup → List KeyGroup
put_group new [] = new ∷ []
put_group new (first ∷ rest) =
    cond (is_lt (group_order first new)) (first ∷ put_group new rest) (new ∷ first ∷ rest)

-- groups, sorted
abbrev pub sorted_groups : List KeyGroup → List KeyGroup
sorted_groups [] = []
sorted_groups (group ∷ groups) = put_group group (sorted_groups groups)

-- the colours that are still to come at a node, rising
abbrev pub coming_at : Node → List ℕ
coming_at node = in_rise (map (λ order. order.colour) (rest_of node))

-- the live groups of a node as its later orders see them
abbrev pub groups_at : Node → List KeyGroup
groups_at node = map (λ g. key_group (coming_at node) (group_of node g)) (live_numbers node)

-- the live key of a path
abbrev pub live_key_at : RankedOrders → List ℕ → Key
live_key_at ranked path =
    record {
      depth = length path;
      groups = sorted_groups (groups_at (record { ranked = ranked; path = path }));
    }

-- the number that a path gives the order from a place of the file, where it gives one
abbrev pub number_at : ℕ → List Placed → List ℕ → ℕ
number_at place [] path = 0
number_at place (placed ∷ rest) [] = 0
number_at place (placed ∷ rest) (g ∷ path) =
    cond (eqb place placed.place) g (number_at place rest path)

-- the plan of a path, in the file's order
abbrev pub plan_at : RankedOrders → List ℕ → List ℕ
plan_at ranked path =
    map (λ place. number_at place ranked.placed path) (below (length ranked.placed))
