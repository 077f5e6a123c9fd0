-- A forest of labelled nodes, which are numbered from 0.
use Rattle.std.specs.Prelude.{ℕ, ◌<◌, ◌^◌, ◌≡◌, ◌≢◌, true, cond, ltb, List, [], ◌∷◌, ◌++◌, length}
use Rattle.std.specs.Prelude.{slice_index_or, slice_set, slice_get, Option, Some, None, IfSome}
use Rattle.list_laws.specs.Sets.{holds}
use Rattle.index_links.specs.Lists.{Apart}

-- by node its label, its parent and its children, and the roots
pub record Forest : Type 0 where
  pub labels : List ℕ
  pub parents : List (Option ℕ)
  pub children : List (List ℕ)
  pub roots : List ℕ

abbrev pub no_nodes : Forest
no_nodes = record { labels = []; parents = []; children = []; roots = [] }

-- how many nodes there are
abbrev pub nodes_of : Forest → ℕ
nodes_of f = length f.labels

abbrev pub label_of : Forest → ℕ → ℕ
label_of f x = slice_index_or f.labels x 0

abbrev pub parent_of : Forest → ℕ → Option ℕ
parent_of f x = slice_index_or f.parents x None

abbrev pub children_of : Forest → ℕ → List ℕ
children_of f x = slice_index_or f.children x []

-- the children of a node, or the roots
abbrev pub nodes_under : Forest → Option ℕ → List ℕ
nodes_under f None = f.roots
nodes_under f (Some p) = children_of f p

-- a node and those beside it
abbrev pub siblings_of : Forest → ℕ → List ℕ
siblings_of f x = nodes_under f (parent_of f x)

-- a parent, if one is named, is a node
abbrev pub IsThere : Forest → Option ℕ → Type 0
IsThere f parent = IfSome parent (λ p. p < nodes_of f)

-- no child of the parent, if one is named, has the label
abbrev pub IsFreeUnder : Forest → Option ℕ → ℕ → Type 0
IsFreeUnder f parent label =
    IfSome parent (λ p. (x : ℕ) → holds x (children_of f p) ≡ true → label_of f x ≢ label)

-- the front of some nodes whose labels are lesser
abbrev pub lesser : List ℕ → ℕ → List ℕ → List ℕ
lesser labels label [] = []
lesser labels label (x ∷ xs) =
    cond (ltb (slice_index_or labels x 0) label) (x ∷ lesser labels label xs) []

-- the others
abbrev pub not_lesser : List ℕ → ℕ → List ℕ → List ℕ
not_lesser labels label [] = []
not_lesser labels label (x ∷ xs) =
    cond (ltb (slice_index_or labels x 0) label) (not_lesser labels label xs) (x ∷ xs)

-- those before and those behind a new node: a child stands by its label, a root is the last
abbrev pub nodes_before : Forest → Option ℕ → ℕ → List ℕ
nodes_before f None label = f.roots
nodes_before f (Some p) label = lesser f.labels label (children_of f p)

abbrev pub nodes_behind : Forest → Option ℕ → ℕ → List ℕ
nodes_behind f None label = []
nodes_behind f (Some p) label = not_lesser f.labels label (children_of f p)

abbrev pub nodes_with : Forest → Option ℕ → ℕ → List ℕ
nodes_with f parent label = nodes_before f parent label ++ nodes_of f ∷ nodes_behind f parent label

-- one node more, under a parent or as a root
abbrev pub with_node : Forest → Option ℕ → ℕ → Forest
with_node f None label = record {
  labels = f.labels ++ label ∷ [];
  parents = f.parents ++ None ∷ [];
  children = f.children ++ [] ∷ [];
  roots = nodes_with f None label;
}
with_node f (Some p) label = record {
  labels = f.labels ++ label ∷ [];
  parents = f.parents ++ Some p ∷ [];
  children = slice_set f.children p (nodes_with f (Some p) label) ++ [] ∷ [];
  roots = f.roots;
}

-- each node has a lesser label than all that stand behind it
abbrev pub RiseByLabel : Forest → List ℕ → Type 0
RiseByLabel f [] = Unit {0}
RiseByLabel f (x ∷ xs) =
    ((y : ℕ) → holds y xs ≡ true → label_of f x < label_of f y) × RiseByLabel f xs

-- what each forest keeps: parents are older than their children, each node stands once, among the
-- children of its parent or the roots, and children rise by label
pub record IsForest (f : Forest) : Type 0 where
  pub few : nodes_of f < 2 ^ 32
  pub parents_count : length f.parents ≡ nodes_of f
  pub children_count : length f.children ≡ nodes_of f
  pub older : (x p : ℕ) → x < nodes_of f → parent_of f x ≡ Some p → p < x
  pub under : (x : ℕ) (parent : Option ℕ) → IsThere f parent →
      holds x (nodes_under f parent) ≡ true → (x < nodes_of f) × (parent_of f x ≡ parent)
  pub found : (x : ℕ) → x < nodes_of f → holds x (siblings_of f x) ≡ true
  pub once : (parent : Option ℕ) → IsThere f parent → Apart (nodes_under f parent)
  pub rise : (p : ℕ) → p < nodes_of f → RiseByLabel f (children_of f p)
