-- A forest with one node more: the label, the parent and the children of each node.
use Rattle.std.proofs.Common.{ℕ, zero, suc, ◌+◌, ◌<◌, ◌≤◌, ◌^◌, ◌-◌, ◌≡◌, ◌≢◌, ◌⊎◌, Bool, true}
use Rattle.std.proofs.Common.{List, [], ◌∷◌, ◌++◌, map, length, eqb, Option, Some, None, refl, sym}
use Rattle.std.proofs.Common.{◌∙◌, ap₂, arith, subst, inl, inr, eq-eqb, eqb-true, ne_eqb, false-eqb}
use Rattle.std.proofs.Common.{false, ap, get_or, set, append-nil}
use Rattle.std.specs.Prelude.{IfSome}
use Rattle.std.proofs.lemmas.List.{get_or-map, get_or-set_same, get_or-set_other, length-set}
use Rattle.std.proofs.lemmas.List.{get_or_append_left, get_or_push, length_push, length-map}
use Rattle.std.proofs.lemmas.List.{get_or_default, same_lists}
use Rattle.list_laws.specs.Sets.{holds}
use Rattle.list_laws.proofs.Different.{different-bounded, holds-append}
use Rattle.list_laws.proofs.Tests.{clash, either, last-or-below, or-left, or-right}
use Rattle.index_links.specs.Lists.{Apart}
use Rattle.index_links.specs.Links.{is_none, is_some, last_or, look, set_at, walk}
use Rattle.index_links.specs.Forest.{Forest, IsForest, IsFreeUnder, IsThere, RiseByLabel}
use Rattle.index_links.specs.Forest.{children_of, label_of, nodes_before, nodes_behind, nodes_of}
use Rattle.index_links.specs.Forest.{nodes_under, nodes_with, parent_of, siblings_of, with_node}
use Rattle.index_links.specs.Nodes.{AreLinksOf, Leads, behind, first_set, first_under, forest_of}
use Rattle.index_links.specs.Nodes.{last_of, oldest}
use Rattle.index_links.proofs.LinkedLists.{begin, holds-first, holds-rest, last-holds}
use Rattle.index_links.proofs.Moved.{length-set_at, look-set_at}
use Rattle.index_links.proofs.Views.{apart-different}
use Rattle.index_links.proofs.Inserted.{apart-with, holds-with, leads-stay, leads-walk, leads-with}
use Rattle.index_links.proofs.Inserted.{led, lesser-is, lesser-parts, not-lesser-is, rise-agree}
use Rattle.index_links.proofs.Inserted.{rise-with, with-cases}

-- whether two parents, each of which may be none, are the same
pub same-parent : (a b : Option ℕ) → (a ≡ b) ⊎ (a ≢ b)
same-parent None None = inl refl
same-parent None (Some q) = inr (λ e. absurd (cc))
same-parent (Some p) None = inr (λ e. absurd (cc))
same-parent (Some p) (Some q) = elim (either (eqb p q)) [
  | inl e ↦ inl (ap Some (eqb-true p q e))
  | inr f ↦ inr (λ e. false-eqb p q (sym f) (let same : p ≡ q = cc in same))
]

-- Labels, parents and children of the new forest.

pub labels-with : (f : Forest) (parent : Option ℕ) (label : ℕ) →
    (with_node f parent label).labels ≡ f.labels ++ label ∷ []
labels-with f None label = refl
labels-with f (Some p) label = refl

pub parents-with : (f : Forest) (parent : Option ℕ) (label : ℕ) →
    (with_node f parent label).parents ≡ f.parents ++ parent ∷ []
parents-with f None label = refl
parents-with f (Some p) label = refl

pub children-count : (f : Forest) (parent : Option ℕ) (label : ℕ) →
    length (with_node f parent label).children ≡ length f.children + 1
children-count f None label = length_push f.children []
children-count f (Some p) label =
    length_push (set f.children p (nodes_with f (Some p) label)) []
    ∙ ap (λ n. n + 1) (length-set f.children p (nodes_with f (Some p) label))

pub under-parent : (f : Forest) (parent : Option ℕ) (label : ℕ) →
    length f.children ≡ nodes_of f → IsThere f parent →
    nodes_under (with_node f parent label) parent ≡ nodes_with f parent label
under-parent f None label count there = refl
under-parent f (Some p) label count there =
    get_or_append_left (set f.children p (nodes_with f (Some p) label)) ([] ∷ []) [] p
    (omega (arith, there, count, length-set f.children p (nodes_with f (Some p) label)))
    ∙ get_or-set_same f.children p (nodes_with f (Some p) label) [] (omega (arith, there, count))

pub under-other : (f : Forest) (parent : Option ℕ) (label : ℕ) (other : Option ℕ) →
    length f.children ≡ nodes_of f → IsThere f other → other ≢ parent →
    nodes_under (with_node f parent label) other ≡ nodes_under f other
under-other f None label None count there ne = absurd (ne refl)
under-other f None label (Some q) count there ne =
    get_or_append_left f.children ([] ∷ []) [] q (omega (arith, there, count))
under-other f (Some p) label None count there ne = refl
under-other f (Some p) label (Some q) count there ne =
    get_or_append_left (set f.children p (nodes_with f (Some p) label)) ([] ∷ []) [] q
    (omega (arith, there, count, length-set f.children p (nodes_with f (Some p) label)))
    ∙ get_or-set_other f.children p q (nodes_with f (Some p) label) [] (λ e. ne (ap Some e))

pub under-new : (f : Forest) (parent : Option ℕ) (label : ℕ) → length f.children ≡ nodes_of f →
    nodes_under (with_node f parent label) (Some (nodes_of f)) ≡ []
under-new f None label count = get_or_push f.children [] [] (nodes_of f) count
under-new f (Some p) label count =
    get_or_push (set f.children p (nodes_with f (Some p) label)) [] [] (nodes_of f)
    (length-set f.children p (nodes_with f (Some p) label) ∙ count)

pub parts : (f : Forest) (parent : Option ℕ) (label : ℕ) →
    nodes_before f parent label ++ nodes_behind f parent label ≡ nodes_under f parent
parts f None label = append-nil f.roots
parts f (Some p) label = lesser-parts f.labels label (children_of f p)

module _ (f : Forest) (is : IsForest f) (parent : Option ℕ) (label : ℕ) where
  abbrev n : ℕ
  n = nodes_of f

  abbrev more : Forest
  more = with_node f parent label

  pub count-with : nodes_of more ≡ n + 1
  count-with = ap length (labels-with f parent label) ∙ length_push f.labels label

  pub label-old : (x : ℕ) → x < n → label_of more x ≡ label_of f x
  label-old x l =
      ap (λ xs. get_or xs x 0) (labels-with f parent label)
      ∙ get_or_append_left f.labels (label ∷ []) 0 x l

  pub label-new : label_of more n ≡ label
  label-new =
      ap (λ xs. get_or xs n 0) (labels-with f parent label) ∙ get_or_push f.labels label 0 n refl

  pub parent-old : (x : ℕ) → x < n → parent_of more x ≡ parent_of f x
  parent-old x l =
      ap (λ xs. get_or xs x None) (parents-with f parent label)
      ∙ get_or_append_left f.parents (parent ∷ []) None x (omega (arith, l, is.parents_count))

  pub parent-new : parent_of more n ≡ parent
  parent-new =
      ap (λ xs. get_or xs n None) (parents-with f parent label)
      ∙ get_or_push f.parents parent None n is.parents_count

module _ (f : Forest) (is : IsForest f) (p label : ℕ) (low : p < nodes_of f)
    (free : IsFreeUnder f (Some p) label) where
  abbrev joined : Forest
  joined = with_node f (Some p) label

  abbrev front : List ℕ
  front = nodes_before f (Some p) label

  abbrev back : List ℕ
  back = nodes_behind f (Some p) label

  inside : (z : ℕ) → holds z (front ++ back) ≡ true → z < nodes_of f
  inside z h = (is.under z (Some p) low (subst (λ xs. holds z xs ≡ true)
      (lesser-parts f.labels label (children_of f p)) h)).0

  in-front : (z : ℕ) → holds z front ≡ true → holds z (front ++ back) ≡ true
  in-front z h = holds-append z front back ∙ or-left (holds z front) (holds z back) h

  in-back : (z : ℕ) → holds z back ≡ true → holds z (front ++ back) ≡ true
  in-back z h = holds-append z front back ∙ or-right (holds z front) (holds z back) h

  old-label : (z : ℕ) → holds z (front ++ back) ≡ true → label_of joined z ≡ label_of f z
  old-label z h = label-old f is (Some p) label z (inside z h)

  -- children still rise by label once a node joined them
  pub rise-joined : RiseByLabel joined (nodes_with f (Some p) label)
  rise-joined =
      rise-with joined (nodes_of f) front back
      (λ z h. omega (
        arith,
        old-label z (in-front z h),
        label-new f is (Some p) label,
        lesser-is f label (children_of f p) z h,
      ))
      (λ z h. omega (
        arith,
        old-label z (in-back z h),
        label-new f is (Some p) label,
        not-lesser-is f label (children_of f p) z (is.rise p low) free h,
      ))
      (rise-agree f joined (front ++ back) old-label
      (subst (RiseByLabel f) (sym (lesser-parts f.labels label (children_of f p)))
      (is.rise p low)))
