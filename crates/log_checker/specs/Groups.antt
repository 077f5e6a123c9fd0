-- The groups of a path, by their loads and colours.
use Rattle.std.specs.Prelude.{ℕ, ◌+◌, ◌≡◌, Bool, cond, ◌&&◌, List, [], ◌∷◌, ◌++◌, length}
use Rattle.std.specs.Prelude.{leb, get_or}
use Rattle.list_laws.specs.Sets.{holds}
use Rattle.mill_model.specs.Slab.{Mill, load, colours}
use Rattle.mill_model.specs.Plan.{slab}
use Rattle.mill_model.specs.Tree.{next_new}
use Rattle.mill_model.specs.LiveKey.{has_colour}
use Rattle.mill_model.specs.declared.order.Order.{Order}

-- a load, and each colour once
pub record Seen : Type 0 where
  pub load : ℕ
  pub colours : List ℕ

-- colours with one more
abbrev pub with_colour : ℕ → List ℕ → List ℕ
with_colour colour colours = cond (holds colour colours) colours (colours ++ colour ∷ [])

-- what a group is with one more order
abbrev pub joined : Seen → Order → Seen
joined seen order =
    record { load = seen.load + order.weight; colours = with_colour order.colour seen.colours }

-- whether a slab may hold so much
abbrev pub may_be : Mill → Seen → Bool
may_be mill seen = leb seen.load mill.largest && leb (length seen.colours) mill.most_colours

-- what is seen of some orders
pub record IsSeen (seen : Seen) (orders : List Order) : Type 0 where
  pub weighs : seen.load ≡ load orders
  pub counts : length seen.colours ≡ colours orders
  pub has : (c : ℕ) → holds c seen.colours ≡ has_colour orders c

abbrev pub no_order : Order
no_order = record { weight = 0; colour = 0 }

abbrev pub nothing_seen : Seen
nothing_seen = record { load = 0; colours = [] }

-- the groups of a path by number; a number that no order has is nothing yet
pub record AreGroups (groups : List Seen) (path : List ℕ) (ranked : List Order) : Type 0 where
  pub count : length groups ≡ next_new path
  pub seen : (g : ℕ) → IsSeen (get_or groups g nothing_seen) (slab g path ranked)
