-- Noted paths, and which of them is found for a key.
use Rattle.std.specs.Prelude.{ℕ, Bool, true, false, cond, ◌&&◌, leb, List}
use Rattle.std.specs.Prelude.{[], ◌∷◌}
use Rattle.std.specs.Prelude.{Option, Some, None}
use Rattle.split_tree.specs.Keys.{Key, same_key}
use Rattle.nogood_store.specs.declared.store.Entry.{Entry}

-- of two entries the one with the lesser dead loss, of equal ones the first
abbrev pub lesser : Entry → Option Entry → Option Entry
lesser first None = Some first
lesser first (Some later) = Some (cond (leb first.dead later.dead) first later)

-- among the entries with a key, the one with the least dead loss, of equal ones the first
abbrev pub best : List Entry → Key → Option Entry
best [] key = None
best (entry ∷ entries) key =
    cond (same_key key entry.key) (lesser entry (best entries key)) (best entries key)

-- the same among those with at most a dead loss
abbrev pub found : List Entry → Key → ℕ → Option Entry
found [] key dead = None
found (entry ∷ entries) key dead =
    cond (same_key key entry.key && leb entry.dead dead)
    (lesser entry (found entries key dead))
    (found entries key dead)

-- the path of an entry, if there is one
abbrev pub path_of : Option Entry → Option (List ℕ)
path_of None = None
path_of (Some entry) = Some entry.path

-- whether there is no entry
abbrev pub is_none : Option Entry → Bool
is_none None = true
is_none (Some entry) = false

-- what a store is seen as: its entries in the order of noting, and how many it has room for
pub record Stored : Type 0 where
  pub entries : List Entry
  pub room : ℕ
