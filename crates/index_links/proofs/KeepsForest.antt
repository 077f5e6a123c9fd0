-- A forest with one node more is a forest.
use Rattle.std.proofs.Common.{ℕ, zero, suc, ◌+◌, ◌<◌, ◌≤◌, ◌^◌, ◌-◌, ◌≡◌, ◌≢◌, ◌⊎◌, Bool, true}
use Rattle.std.proofs.Common.{List, [], ◌∷◌, ◌++◌, map, length, eqb, Option, Some, None, refl, sym}
use Rattle.std.proofs.Common.{◌∙◌, ap₂, arith, subst, inl, inr, eq-eqb, eqb-true, ne_eqb, false-eqb}
use Rattle.std.proofs.Common.{false, ap, get_or, set, append-nil}
use Rattle.std.specs.Prelude.{IfSome}
use Rattle.std.proofs.lemmas.List.{get_or-map, get_or-set_same, get_or-set_other, length-set}
use Rattle.std.proofs.lemmas.List.{get_or_append_left, get_or_push, length_push, length-map}
use Rattle.std.proofs.lemmas.List.{get_or_default, same_lists}
use Rattle.list_laws.specs.Sets.{holds}
use Rattle.list_laws.proofs.Different.{different-bounded, holds-append}
use Rattle.list_laws.proofs.Tests.{clash, either, last-or-below, or-left, or-right}
use Rattle.index_links.specs.Lists.{Apart}
use Rattle.index_links.specs.Links.{is_none, is_some, last_or, look, set_at, walk}
use Rattle.index_links.specs.Forest.{Forest, IsForest, IsFreeUnder, IsThere, RiseByLabel}
use Rattle.index_links.specs.Forest.{children_of, label_of, nodes_before, nodes_behind, nodes_of}
use Rattle.index_links.specs.Forest.{nodes_under, nodes_with, parent_of, siblings_of, with_node}
use Rattle.index_links.specs.Nodes.{AreLinksOf, Leads, behind, first_set, first_under, forest_of}
use Rattle.index_links.specs.Nodes.{last_of, oldest}
use Rattle.index_links.proofs.LinkedLists.{begin, holds-first, holds-rest, last-holds}
use Rattle.index_links.proofs.Moved.{length-set_at, look-set_at}
use Rattle.index_links.proofs.Views.{apart-different}
use Rattle.index_links.proofs.Inserted.{apart-with, holds-with, leads-stay, leads-walk, leads-with}
use Rattle.index_links.proofs.Inserted.{led, lesser-is, lesser-parts, not-lesser-is, rise-agree}
use Rattle.index_links.proofs.Inserted.{rise-with, with-cases}
use Rattle.index_links.proofs.WithNode.{children-count, count-with, label-old, parent-new}
use Rattle.index_links.proofs.WithNode.{parent-old, parents-with, parts, rise-joined, same-parent}
use Rattle.index_links.proofs.WithNode.{under-new, under-other, under-parent}

module _ (f : Forest) (is : IsForest f) (parent : Option ℕ) (label : ℕ)
    (there : IsThere f parent) (free : IsFreeUnder f parent label) where
  abbrev n : ℕ
  n = nodes_of f

  abbrev more : Forest
  more = with_node f parent label

  count : nodes_of more ≡ n + 1
  count = count-with f is parent label

  old-parent : (x : ℕ) → x < n → parent_of more x ≡ parent_of f x
  old-parent x l = parent-old f is parent label x l

  new-parent : parent_of more n ≡ parent
  new-parent = parent-new f is parent label

  pub members : (x : ℕ) →
      holds x (nodes_before f parent label ++ nodes_behind f parent label) ≡ true →
      (x < n) × (parent_of f x ≡ parent)
  members x h = is.under x parent there (subst (λ xs. holds x xs ≡ true) (parts f parent label) h)

  not-there : holds n (nodes_before f parent label ++ nodes_behind f parent label) ≡ false
  not-there = elim (either (holds n (nodes_before f parent label
      ++ nodes_behind f parent label))) [
        | inl h ↦ absurd (omega (arith, (members n h).0))
        | inr g ↦ g
      ]

  -- under a parent stands what the new node joined, what stood there, or nothing yet
  abbrev pub Stands : Option ℕ → Type 0
  Stands other =
      ((other ≡ parent) × (nodes_under more other ≡ nodes_with f parent label))
      ⊎ (((other ≢ parent) × IsThere f other × (nodes_under more other ≡ nodes_under f other))
      ⊎ ((other ≡ Some n) × (nodes_under more other ≡ [])))

  pub stands : (other : Option ℕ) → IsThere more other → Stands other
  stands other l = elim (same-parent other parent) [
    | inl e ↦ inl (
      e,
      subst (λ o. nodes_under more o ≡ nodes_with f parent label) (sym e)
          (under-parent f parent label is.children_count there),
    )
    | inr ne ↦ inr (go other l ne)
  ]
    where
      go : (other : Option ℕ) → IsThere more other → other ≢ parent →
          ((other ≢ parent) × IsThere f other × (nodes_under more other ≡ nodes_under f other))
          ⊎ ((other ≡ Some n) × (nodes_under more other ≡ []))
      go None l ne = inl (ne, tt, under-other f parent label None is.children_count tt ne)
      go (Some q) l ne =
          elim (last-or-below q n (omega (arith, l, count))) [
            | inl e ↦ inr (
              ap Some e,
              subst (λ m. nodes_under more (Some m) ≡ []) (sym e)
                  (under-new f parent label is.children_count),
            )
            | inr b ↦ inl (ne, b, under-other f parent label (Some q) is.children_count b ne)
          ]

  old-there : (x : ℕ) → x < nodes_of more → x ≢ n → x < n
  old-there x l ne = omega (arith, l, ne, count)

  under-more : (x : ℕ) (other : Option ℕ) → IsThere more other →
      holds x (nodes_under more other) ≡ true →
      (x < nodes_of more) × (parent_of more x ≡ other)
  under-more x other l h = elim (stands other l) [
    | inl s ↦ elim (with-cases x n (nodes_before f parent label) (nodes_behind f parent label)
        (subst (λ xs. holds x xs ≡ true) s.1 h)) [
          | inl e ↦ (
            omega (arith, e, count),
            subst (λ w. parent_of more w ≡ other) (sym e) (new-parent ∙ sym s.0),
          )
          | inr i ↦ (let m = members x i in (
            omega (arith, m.0, count),
            old-parent x m.0 ∙ m.1 ∙ sym s.0,
          ))
        ]
    | inr r ↦ elim r [
      | inl s ↦ (let m = is.under x other s.1 (subst (λ xs. holds x xs ≡ true) s.2 h) in (
        omega (arith, m.0, count),
        old-parent x m.0 ∙ m.1,
      ))
      | inr s ↦ absurd (let no : false ≡ true = subst (λ xs. holds x xs ≡ true) s.1 h in cc)
    ]
  ]

  found-more : (x : ℕ) → x < nodes_of more → holds x (siblings_of more x) ≡ true
  found-more x l = elim (either (eqb x n)) [
    | inl e ↦ subst (λ w. holds w (siblings_of more w) ≡ true) (sym (eqb-true x n e))
        (subst (λ o. holds n (nodes_under more o) ≡ true) (sym new-parent)
        (subst (λ xs. holds n xs ≡ true)
        (sym (under-parent f parent label is.children_count there))
        (holds-with n n (nodes_before f parent label) (nodes_behind f parent label)
        ∙ or-left (eqb n n) _ (eq-eqb n n refl))))
    | inr g ↦ (
        let low : x < n = old-there x l (false-eqb x n (sym g)) in
        subst (λ o. holds x (nodes_under more o) ≡ true) (sym (old-parent x low))
        (kept x low (same-parent (parent_of f x) parent)))
  ]
    where
      owner : (x : ℕ) → x < n → IsThere f (parent_of f x)
      owner x low = go (parent_of f x) refl
        where
          go : (o : Option ℕ) → parent_of f x ≡ o → IsThere f o
          go None e = tt
          go (Some p) e = omega (arith, is.older x p low e, low)

      kept : (x : ℕ) → x < n →
          (parent_of f x ≡ parent) ⊎ (parent_of f x ≢ parent) →
          holds x (nodes_under more (parent_of f x)) ≡ true
      kept x low (inl e) =
          subst (λ o. holds x (nodes_under more o) ≡ true) (sym e)
          (subst (λ xs. holds x xs ≡ true)
          (sym (under-parent f parent label is.children_count there))
          (holds-with x n (nodes_before f parent label) (nodes_behind f parent label)
          ∙ or-right (eqb x n) _ (subst (λ xs. holds x xs ≡ true) (sym (parts f parent label))
          (subst (λ o. holds x (nodes_under f o) ≡ true) e (is.found x low)))))
      kept x low (inr ne) =
          subst (λ xs. holds x xs ≡ true)
          (sym (under-other f parent label (parent_of f x) is.children_count (owner x low) ne))
          (is.found x low)

  once-more : (other : Option ℕ) → IsThere more other → Apart (nodes_under more other)
  once-more other l = elim (stands other l) [
    | inl s ↦ subst Apart (sym s.1)
        (apart-with n (nodes_before f parent label) (nodes_behind f parent label) not-there
        (subst Apart (sym (parts f parent label)) (is.once parent there)))
    | inr r ↦ elim r [
      | inl s ↦ subst Apart (sym s.2) (is.once other s.1)
      | inr s ↦ subst Apart (sym s.1) tt
    ]
  ]

  rise-more : (p : ℕ) → p < nodes_of more → RiseByLabel more (children_of more p)
  rise-more p l = elim (stands (Some p) l) [
    | inl s ↦ subst (RiseByLabel more) (sym s.1)
        (subst (λ o. RiseByLabel (with_node f o label) (nodes_with f o label)) s.0
        (rise-joined f is p label (subst (IsThere f) (sym s.0) there)
        (subst (λ o. IsFreeUnder f o label) (sym s.0) free)))
    | inr r ↦ elim r [
      | inl s ↦ subst (RiseByLabel more) (sym s.2)
          (rise-agree f more (children_of f p)
          (λ z h. label-old f is parent label z (is.under z (Some p) s.1 h).0) (is.rise p s.1))
      | inr s ↦ subst (RiseByLabel more) (sym s.1) tt
    ]
  ]

  older-more : (x p : ℕ) → x < nodes_of more → parent_of more x ≡ Some p → p < x
  older-more x p l e = elim (either (eqb x n)) [
    | inl s ↦ (
        let here : x ≡ n = eqb-true x n s in
        let named : parent ≡ Some p =
        sym new-parent ∙ subst (λ w. parent_of more w ≡ Some p) here e in
        let low : p < n = subst (IsThere f) named there in
        omega (arith, low, here))
    | inr g ↦ (
        let low : x < n = old-there x l (false-eqb x n (sym g)) in
        is.older x p low (sym (old-parent x low) ∙ e))
  ]

  pub forest-with : n < 2 ^ 32 - 1 → IsForest more
  forest-with few = record {
    few = omega (arith, few, count);
    parents_count = ap length (parents-with f parent label) ∙ length_push f.parents parent
        ∙ omega (arith, is.parents_count, count);
    children_count = omega (
      arith,
      children-count f parent label,
      is.children_count,
      count,
    );
    older = older-more;
    under = under-more;
    found = found-more;
    once = once-more;
    rise = rise-more;
  }
