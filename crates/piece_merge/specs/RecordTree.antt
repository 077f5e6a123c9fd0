-- A tree of the paths of some records, each of which is kept beside the node of its path.
use Rattle.std.specs.Prelude.{ℕ, ◌+◌, ◌<◌, ◌≤◌, ◌≡◌, ◌⊎◌, List, [], ◌∷◌, length}
use Rattle.std.specs.Prelude.{slice_index_or, Option, Some, None}
use Rattle.list_laws.specs.Sets.{same_list, times}
use Rattle.index_links.specs.Forest.{Forest, IsFreeUnder, label_of, nodes_of, parent_of}
use Rattle.mill_model.specs.Log.{recorded}
use Rattle.mill_model.specs.declared.closing.Entry.{Entry}
use Rattle.piece_merge.specs.Paths.{IsRooted, path_of}

-- the records that have come, by the number of their nodes
abbrev pub present : List (Option Entry) → List Entry
present [] = []
present (None ∷ records) = present records
present (Some entry ∷ records) = entry ∷ present records

-- the record beside a node, if it has come
abbrev pub record_at : List (Option Entry) → ℕ → Option Entry
record_at records x = slice_index_or records x None

-- each record stands beside the node of its path
pub record IsRecordTree (f : Forest) (records : List (Option Entry)) : Type 0 where
  pub tree : IsRooted f
  pub beside : length records ≡ nodes_of f
  pub at_path : (x : ℕ) (entry : Entry) → record_at records x ≡ Some entry →
      entry.path ≡ path_of f x

-- no record has the path
abbrev pub IsWithoutPath : List ℕ → List Entry → Type 0
IsWithoutPath path records = times same_list path (recorded records) ≡ 0

-- a child of a node with a label, if there is one
abbrev pub IsLabelled : Forest → ℕ → ℕ → Option ℕ → Type 0
IsLabelled f parent label None = IsFreeUnder f (Some parent) label
IsLabelled f parent label (Some x) =
    (x < nodes_of f) × (parent_of f x ≡ Some parent) × (label_of f x ≡ label)

-- a tree once a child was asked for: the nodes keep their paths, and at most the child is new
pub record HasGrown (child : ℕ) (before now : Forest) : Type 0 where
  pub kept : (x : ℕ) → x < nodes_of before → (x < nodes_of now) × (path_of now x ≡ path_of before x)
  pub few : nodes_of now ≤ nodes_of before + 1
  pub only : (x : ℕ) → x < nodes_of now → (x < nodes_of before) ⊎ (x ≡ child)
