-- The links of a forest: what they tell of it, and that they make the forest with one node more.
use Rattle.std.proofs.Common.{ℕ, zero, suc, ◌+◌, ◌<◌, ◌≤◌, ◌^◌, ◌-◌, ◌≡◌, ◌≢◌, Bool, true, false}
use Rattle.std.proofs.Common.{List, [], ◌∷◌, ◌++◌, map, length, eqb, Option, Some, None, refl, sym}
use Rattle.std.proofs.Common.{◌∙◌, ap₂, arith, subst, inl, inr, eq-eqb, eqb-true, ne_eqb, false-eqb}
use Rattle.std.proofs.Common.{cond, ap, get_or}
use Rattle.std.proofs.lemmas.List.{get_or-map, get_or_append_left, get_or_push, length_push}
use Rattle.std.proofs.lemmas.List.{get_or_default, length-map, same_lists}
use Rattle.list_laws.specs.Sets.{holds}
use Rattle.list_laws.proofs.Different.{different-bounded}
use Rattle.index_links.specs.Lists.{after}
use Rattle.index_links.specs.Links.{look, walk}
use Rattle.index_links.specs.Forest.{Forest, IsForest, IsThere, children_of, nodes_of, nodes_under}
use Rattle.index_links.specs.Forest.{parent_of, siblings_of}
use Rattle.index_links.specs.Nodes.{AreLinksOf, forest_of, oldest}
use Rattle.index_links.proofs.Views.{apart-different}
use Rattle.index_links.proofs.Inserted.{leads-after, leads-walk}

-- the parent of a node is there
pub parent-there : (f : Forest) → IsForest f → (x : ℕ) → x < nodes_of f →
    IsThere f (parent_of f x)
parent-there f is x low = go (parent_of f x) refl
  where
    go : (o : Option ℕ) → parent_of f x ≡ o → IsThere f o
    go None e = tt
    go (Some p) e = omega (arith, is.older x p low e, low)

module _ (firsts nexts : List (Option ℕ)) (last : Option ℕ) (f : Forest)
    (is : AreLinksOf firsts nexts last f) where
  -- what stands behind a node among its siblings
  pub next-is : (x : ℕ) → x < nodes_of f → look nexts x ≡ after x (siblings_of f x)
  next-is x l =
      leads-after nexts _ (siblings_of f x) x (is.forest.found x l)
      (is.lead (parent_of f x) (parent-there f is.forest x l))

  few-under : (parent : Option ℕ) → IsThere f parent →
      length (nodes_under f parent) ≤ nodes_of f
  few-under parent there =
      let few = different-bounded (nodes_of f) (nodes_under f parent)
      (λ x h. (is.forest.under x parent there h).0) in
      let same = apart-different (nodes_under f parent) (is.forest.once parent there) in
      omega (arith, few, same)

  -- the links make the forest
  pub forest-is : forest_of f.labels f.parents firsts nexts ≡ f
  forest-is =
      ap₂ (λ (children : List (List ℕ)) (roots : List ℕ). record {
        labels = f.labels;
        parents = f.parents;
        children = children;
        roots = roots;
      })
      (same_lists (map (λ first. walk nexts first (nodes_of f)) firsts) f.children
      (count ∙ sym is.forest.children_count) (λ p d l. at p d (omega (arith, l, count))))
      (leads-walk nexts (oldest (nodes_of f)) f.roots (nodes_of f) (few-under None tt)
      (is.lead None tt))
    where
      count : length (map (λ first. walk nexts first (nodes_of f)) firsts) ≡ nodes_of f
      count = length-map firsts (λ first. walk nexts first (nodes_of f)) ∙ is.firsts_count

      at : (p : ℕ) (d : List ℕ) → p < nodes_of f →
          get_or (map (λ first. walk nexts first (nodes_of f)) firsts) p d ≡ get_or f.children p d
      at p d l =
          get_or-map (λ first. walk nexts first (nodes_of f)) firsts p None d
          (omega (arith, l, is.firsts_count))
          ∙ leads-walk nexts (look firsts p) (children_of f p) (nodes_of f) (few-under (Some p) l)
          (is.lead (Some p) l)
          ∙ get_or_default f.children p [] d (omega (arith, l, is.forest.children_count))
