-- Nodes that are linked by first child and next sibling, and the forest that they make. No public
-- clause cites this file.
use Rattle.std.specs.Prelude.{ℕ, zero, suc, ◌≡◌, List, [], ◌∷◌, ◌++◌, map, length, Option, Some}
use Rattle.std.specs.Prelude.{None}
use Rattle.index_links.specs.Links.{last_or, look, set_at, walk}
use Rattle.index_links.specs.Forest.{Forest, IsForest, IsThere, nodes_of, nodes_under}

-- the last of some nodes
abbrev pub last_of : List ℕ → Option ℕ
last_of xs = last_or None xs

-- the oldest of so many nodes, which is the first root
abbrev pub oldest : ℕ → Option ℕ
oldest zero = None
oldest (suc n) = Some 0

-- the first of the children of a node, or of the roots
abbrev pub first_under : List (Option ℕ) → ℕ → Option ℕ → Option ℕ
first_under firsts n None = oldest n
first_under firsts n (Some p) = look firsts p

-- from a first node, the links to next siblings lead to these nodes
abbrev pub Leads : List (Option ℕ) → Option ℕ → List ℕ → Type 0
Leads nexts at [] = at ≡ None
Leads nexts at (x ∷ xs) = (at ≡ Some x) × Leads nexts (look nexts x) xs

-- the forest that labels, parents and links make
abbrev pub forest_of : List ℕ → List (Option ℕ) → List (Option ℕ) → List (Option ℕ) → Forest
forest_of labels parents firsts nexts = record {
  labels = labels;
  parents = parents;
  children = map (λ first. walk nexts first (length labels)) firsts;
  roots = walk nexts (oldest (length labels)) (length labels);
}

-- what stands behind a node, or if there is none before it, what stands first under a parent
abbrev pub behind : List (Option ℕ) → List (Option ℕ) → Option ℕ → Option ℕ → Option ℕ
behind firsts nexts None None = None
behind firsts nexts (Some p) None = look firsts p
behind firsts nexts parent (Some before) = look nexts before

-- the table of first children, with a node that has none before it
abbrev pub first_set : Option ℕ → Option ℕ → ℕ → List (Option ℕ) → List (Option ℕ)
first_set parent None node firsts = set_at parent (Some node) firsts
first_set parent (Some before) node firsts = firsts

-- the links and the last root make this forest
pub record AreLinksOf (firsts nexts : List (Option ℕ)) (last : Option ℕ) (f : Forest)
    : Type 0 where
  pub forest : IsForest f
  pub firsts_count : length firsts ≡ nodes_of f
  pub nexts_count : length nexts ≡ nodes_of f
  pub last_is : last ≡ last_of f.roots
  pub lead : (parent : Option ℕ) → IsThere f parent →
      Leads nexts (first_under firsts (nodes_of f) parent) (nodes_under f parent)
