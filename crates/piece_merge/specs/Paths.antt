-- The paths of the nodes of a tree whose labels are the numbers of paths.
use Rattle.std.specs.Prelude.{ℕ, zero, suc, ◌<◌, ◌≡◌, ◌⊎◌, false, true, List, [], ◌∷◌, ◌++◌, Option}
use Rattle.std.specs.Prelude.{Some, None}
use Rattle.std.specs.Option.{option_map_or}
use Rattle.index_links.specs.Forest.{Forest, IsForest, label_of, nodes_of, parent_of}
use Rattle.refute_log.specs.Rising.{comes_before}

-- the labels from below the root to a node, in at most so many steps up
abbrev pub labels_to : Forest → ℕ → ℕ → List ℕ
labels_to f zero x = []
labels_to f (suc steps) x =
    option_map_or (λ p. labels_to f steps p ++ label_of f x ∷ []) (parent_of f x) []

-- the path of a node: parents are older than their children, so it has no more steps than its
-- number says
abbrev pub path_of : Forest → ℕ → List ℕ
path_of f x = labels_to f x x

-- a tree whose only root is the first node
pub record IsRooted (f : Forest) : Type 0 where
  pub forest : IsForest f
  pub begun : 0 < nodes_of f
  pub root : (x : ℕ) → x < nodes_of f → parent_of f x ≡ None → x ≡ 0

-- a tree once some nodes came: the older ones keep their paths, and the others stand at fronts of
-- a path
pub record GrewAlong (path : List ℕ) (before now : Forest) : Type 0 where
  pub kept : (x : ℕ) → x < nodes_of before → (x < nodes_of now) × (path_of now x ≡ path_of before x)
  pub fronts : (x : ℕ) → x < nodes_of now →
      (x < nodes_of before) ⊎ ((rest : List ℕ) × (path ≡ path_of now x ++ rest))

-- the node, if any, with the path that comes next behind that of a node
abbrev pub IsNextNode : Forest → ℕ → Option ℕ → Type 0
IsNextNode f x None =
    (z : ℕ) → z < nodes_of f → comes_before (path_of f x) (path_of f z) ≡ false
IsNextNode f x (Some y) =
    (y < nodes_of f)
    × (comes_before (path_of f x) (path_of f y) ≡ true)
    × ((z : ℕ) → z < nodes_of f → comes_before (path_of f x) (path_of f z) ≡ true →
    comes_before (path_of f z) (path_of f y) ≡ false)
