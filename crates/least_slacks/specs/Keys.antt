-- What a key says of a group, and what tables serve it.
use Rattle.std.specs.Prelude.{ℕ, ◌+◌, ◌<◌, ◌≤◌, ◌≡◌, List, [], ℤ, pos, length, slice_index}
use Rattle.std.specs.Prelude.{slice_index_or, replicate}
use Rattle.mill_model.specs.Prices.{least_slack}
use Rattle.list_laws.specs.Sets.{holds, different}
use Rattle.mill_model.specs.declared.order.Order.{Order}
use Rattle.set_minima.specs.Packs.{colour_at}
use Rattle.set_minima.specs.Joins.{all_places, IsSlab}
use Rattle.set_minima.specs.Cells.{cell, AreNearTo, IsSmall, slack_limit}
use Rattle.least_slacks.specs.Limits.{mill_within}
use Rattle.least_slacks.specs.Later.{IsTableOf, HaveSame}
use Rattle.least_slacks.specs.declared.key.Key.{Key}
use Rattle.least_slacks.specs.declared.later_orders.LaterOrders.{LaterOrders}
use Rattle.least_slacks.specs.declared.least_slack.Joined.{Joined}
use Rattle.least_slacks.specs.declared.limits.SlabLimits.{SlabLimits}
use Rattle.least_slacks.specs.declared.halving.SlackTables.{SlackTables}

-- colours of which each stands once: as many as the key says, and of those of later orders the ones
-- that it names
pub record HasColours (rest : List Order) (key : Key) (own : List ℕ) : Type 0 where
  pub once : length own ≡ different own
  pub count : length own ≡ key.colours
  pub same :
      (i : ℕ) → i < length rest →
      holds (colour_at rest i) own ≡ holds (colour_at rest i) key.coming

-- a key of a slab that the mill may hold
abbrev pub IsInside : SlabLimits → Key → Type 0
IsInside limits key = (key.load ≤ limits.largest) × (key.colours ≤ limits.most)

-- a key past the last one
abbrev pub no_key : Key
no_key = record { coming = []; colours = 0; load = 0 }

-- the least slack of each group whose key is given
pub record AreLeast (limits : SlabLimits) (rest : List Order) (prices : List ℤ) (keys : List Key)
    (slacks : List ℤ)
    : Type 0 where
  pub long : length slacks ≡ length keys
  pub small :
      (i : ℕ) → i < length keys → (own : List ℕ) →
      HasColours rest (slice_index_or keys i no_key) own →
      IsSmall slack_limit (slice_index_or slacks i (pos 0))
  pub least :
      (i : ℕ) → i < length keys → (own : List ℕ) (group : List Order) →
      HasColours rest (slice_index_or keys i no_key) own →
      IsSlab group (slice_index_or keys i no_key).load own →
      slice_index_or slacks i (pos 0) ≡
      least_slack (mill_within limits) (λ l. slice_index limits.charges.now l) group rest prices

-- a table that is as long as that of an empty slab
pub record HasRoom (largest most : ℕ) (tables : SlackTables) : Type 0 where
  pub one : length tables.one.items ≡ largest + 1

-- a table of all orders for the slabs that have some colours to come among so many
pub record IsJoined (later : LaterOrders) (most : ℕ) (joined : Joined) (one : List ℤ) : Type 0
  where
    pub inside : joined.reach ≤ length one
    pub table :
        (own : List ℕ) → length own ≡ different own → length own ≡ joined.colours →
        HaveSame later own joined.coming →
        IsTableOf later all_places own most joined.reach (cell one)
    pub near : AreNearTo 300000000000000000 joined.reach one

-- the key of a new slab
abbrev pub new_slab : Key
new_slab = record { coming = replicate 8 65535; colours = 0; load = 0 }
