-- The live keys of a store, each once, and the place of the best entry of each.
use Rattle.std.specs.Prelude.{ℕ, ◌<◌, ◌≡◌, List, [], All, length, map, get_or, Option, Some, None}
use Rattle.std.specs.Prelude.{slice_get}
use Rattle.split_tree.specs.Keys.{Key}
use Rattle.nogood_store.specs.Entries.{best}
use Rattle.nogood_store.specs.declared.store.Entry.{Entry}
use Rattle.nogood_store.specs.declared.store.Numbered.{Numbered}

-- the key of a number
abbrev pub key_at : List Key → ℕ → Key
key_at keys number = get_or keys number (record { depth = 0; groups = [] })

-- an entry with its key in place of the key's number
abbrev pub entry_of : List Key → Numbered → Entry
entry_of keys entry =
    record { key = key_at keys entry.key; dead = entry.dead; path = entry.path }

abbrev pub entries_of : List Key → List Numbered → List Entry
entries_of keys entries = map (entry_of keys) entries

-- each number is that of a key
abbrev pub AreNumbered : List Key → List Numbered → Type 0
AreNumbered keys entries = All (λ entry. entry.key < length keys) entries

-- the entry at a place, if there is a place
abbrev pub entry_at : List Entry → Option ℕ → Option Entry
entry_at entries None = None
entry_at entries (Some place) = slice_get entries place

-- each key has the place of its best entry
pub record HasBest (place_of : Key → Option ℕ) (entries : List Entry) : Type 0 where
  pub best : (key : Key) → entry_at entries (place_of key) ≡ best entries key
  pub within : (key : Key) (place : ℕ) → place_of key ≡ Some place → place < length entries
