-- What the owner of a deque and its thieves know, as views under the deque's rule.
use Rattle.std.specs.Prelude.{ℕ, ◌+◌, ◌-◌, Bool, true, false, List, [], ◌++◌}
use Rattle.order_symmetry.specs.Ranked.{RankedOrders}
use Rattle.steal_deques.specs.declared.rule.DequeView.{DequeView}

-- the owner of an opened deque
abbrev pub owner_view : RankedOrders → ℕ → ℕ → List (List ℕ) → List (List ℕ) → List (List ℕ) →
    DequeView
owner_view ranked all shares pushed popped stolen = record {
  opened = true;
  owns = true;
  ranked = ranked;
  all = all;
  shares = shares;
  pushed = pushed;
  popped = popped;
  stolen = stolen;
}

-- one that may steal while it has a share
abbrev pub other_view : Bool → RankedOrders → ℕ → List (List ℕ) → DequeView
other_view opened ranked shares stolen = record {
  opened = opened;
  owns = false;
  ranked = ranked;
  all = 0;
  shares = shares;
  pushed = [];
  popped = [];
  stolen = stolen;
}

-- a thief has one share
abbrev pub thief_view : RankedOrders → List (List ℕ) → DequeView
thief_view ranked stolen = other_view true ranked 1 stolen

abbrev pub no_orders : RankedOrders
no_orders = record { placed = []; mill = record { largest = 0; most_colours = 0 } }

-- before the deque is opened, its orders and shares aren't known
abbrev pub unopened_view : DequeView
unopened_view = other_view false no_orders 0 []

-- a thief that was taken back
abbrev pub spent_view : DequeView
spent_view = other_view true no_orders 0 []

-- some paths are pushed, popped or stolen
abbrev pub view_after_push : DequeView → List (List ℕ) → DequeView
view_after_push v paths = record v { pushed = v.pushed ++ paths }

abbrev pub view_after_pop : DequeView → List (List ℕ) → DequeView
view_after_pop v paths = record v { popped = v.popped ++ paths }

abbrev pub view_after_steal : DequeView → List (List ℕ) → DequeView
view_after_steal v paths = record v { stolen = v.stolen ++ paths }

-- the owner lends a share to a thief
abbrev pub lender_view : DequeView → DequeView
lender_view v = record v { shares = v.shares - 1 }

abbrev pub lent_view : DequeView → DequeView
lent_view v = thief_view v.ranked []

-- and takes it back, with what was stolen
abbrev pub both_views : DequeView → DequeView → DequeView
both_views v w = record v { shares = v.shares + w.shares; stolen = v.stolen ++ w.stolen }
