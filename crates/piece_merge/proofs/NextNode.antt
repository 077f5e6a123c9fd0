-- The node that comes next in preorder has the next path: the first child; else the next sibling of
-- the lowest node, from the node itself upwards, that has one.
use Rattle.std.proofs.Common.{ℕ, ◌<◌, ◌≤◌, ◌≡◌, ◌⊎◌, Bool, true, false, List, [], ◌∷◌, ◌++◌, Option}
use Rattle.std.proofs.Common.{Some, None, refl, sym, ap, ◌∙◌, arith, subst, inl, inr, append-nil}
use Rattle.std.proofs.Common.{append_assoc}
use Rattle.std.proofs.lemmas.Bool.{cases_Bool}
use Rattle.std.specs.List.{slice_get}
use Rattle.list_laws.specs.Sets.{holds}
use Rattle.list_laws.proofs.Tests.{clash}
use Rattle.index_links.specs.Lists.{after}
use Rattle.index_links.specs.Forest.{Forest, children_of, label_of, nodes_of, nodes_under}
use Rattle.index_links.specs.Forest.{parent_of, siblings_of}
use Rattle.index_links.proofs.LinkedLists.{first-holds}
use Rattle.refute_log.specs.Rising.{comes_before}
use Rattle.refute_log.proofs.Order.{before-child, before-not}
use Rattle.piece_merge.specs.Paths.{IsNextNode, IsRooted, path_of}
use Rattle.piece_merge.proofs.PathOrder.{before-cases, not-before-push, parts-before, parts_below}
use Rattle.piece_merge.proofs.PathOrder.{parts-last, parts-push}
use Rattle.piece_merge.proofs.TreePaths.{after-least, after-rises, among-children, child-path}
use Rattle.piece_merge.proofs.TreePaths.{first-least, on-the-way, root-path}

no-first : (xs : List ℕ) (c : ℕ) → slice_get xs 0 ≡ None → holds c xs ≡ true → ⊥
no-first [] c e h = absurd (let none : false ≡ true = h in cc)
no-first (x ∷ xs) c e h = absurd (let none : Some x ≡ None = e in cc)

module _ (f : Forest) (tree : IsRooted f) where
  -- a child of a node: its number is known and its path
  pub child-of : (p c : ℕ) → p < nodes_of f → holds c (children_of f p) ≡ true →
      (c < nodes_of f) × (parent_of f c ≡ Some p)
      × (path_of f c ≡ path_of f p ++ label_of f c ∷ [])
  child-of p c low h =
      let u = tree.forest.under c (Some p) low h in
      (u.0, u.1, child-path f tree.forest c p u.0 u.1)

  -- the first child comes next
  pub first-next : (x y : ℕ) → x < nodes_of f → slice_get (children_of f x) 0 ≡ Some y →
      IsNextNode f x (Some y)
  first-next x y low e = (
    child.0,
    subst (λ q. comes_before (path_of f x) q ≡ true) (sym child.2)
        (before-child (path_of f x) (label_of f y)),
    λ z high b. elim (before-cases (path_of f x) (path_of f z) b) [
      | inl parts ↦ before-not (path_of f y) (path_of f z)
          (subst (λ q. comes_before q (path_of f z) ≡ true) (sym child.2)
          (parts-before (path_of f x) (label_of f y ∷ []) (path_of f z) parts))
      | inr way ↦ (
          let c = on-the-way f tree x z way.0 way.1 low high way.2 in
          let least = first-least f (children_of f x) y c.0 (tree.forest.rise x low) e c.1 in
          subst (λ q. comes_before q (path_of f y) ≡ false) (sym way.2)
          (subst (λ q. comes_before (path_of f x ++ way.0 ∷ way.1) q ≡ false) (sym child.2)
          (not-before-push (path_of f x) way.0 way.1 (label_of f y)
          (omega (arith, least, c.2)))))
    ],
  )
    where
      child : (y < nodes_of f) × (parent_of f y ≡ Some x)
          × (path_of f y ≡ path_of f x ++ label_of f y ∷ [])
      child = child-of x y low (first-holds (children_of f x) y e)

  -- Above a node: all that comes after the node parts from what is passed.
  pub record HasPassedBelow (x at : ℕ) : Type 0 where
    pub there : at < nodes_of f
    pub rest : List ℕ
    pub above : path_of f x ≡ path_of f at ++ rest
    pub passed : (z : ℕ) → z < nodes_of f → comes_before (path_of f x) (path_of f z) ≡ true →
        parts_below (path_of f at) (path_of f z) ≡ true

  pub passed-leaf : (x : ℕ) → x < nodes_of f → slice_get (children_of f x) 0 ≡ None →
      HasPassedBelow x x
  passed-leaf x low leaf = record {
    there = low;
    rest = [];
    above = sym (append-nil (path_of f x));
    passed = λ z high b. elim (before-cases (path_of f x) (path_of f z) b) [
      | inl parts ↦ parts
      | inr way ↦ (
          let c = on-the-way f tree x z way.0 way.1 low high way.2 in
          absurd (no-first (children_of f x) c.0 leaf c.1))
    ];
  }

  module _ (x at p : ℕ) (is : HasPassedBelow x at) (up : parent_of f at ≡ Some p) where
    abbrev label : ℕ
    label = label_of f at

    parent-low : p < nodes_of f
    parent-low = omega (arith, tree.forest.older at p is.there up, is.there)

    at-path : path_of f at ≡ path_of f p ++ label ∷ []
    at-path = child-path f tree.forest at p is.there up

    siblings : siblings_of f at ≡ children_of f p
    siblings = ap (nodes_under f) up

    -- what comes after the node parts from the parent too, or goes on behind its child
    cases : (z : ℕ) → z < nodes_of f → comes_before (path_of f x) (path_of f z) ≡ true →
        (parts_below (path_of f p) (path_of f z) ≡ true)
        ⊎ ((g : ℕ) × (rest : List ℕ) × (label < g) × (path_of f z ≡ path_of f p ++ g ∷ rest))
    cases z high b =
        parts-push (path_of f p) label (path_of f z)
        (subst (λ q. parts_below q (path_of f z) ≡ true) at-path (is.passed z high b))

    least : (z g : ℕ) (rest : List ℕ) → z < nodes_of f → label < g →
        path_of f z ≡ path_of f p ++ g ∷ rest →
        (b : ℕ) × (after at (siblings_of f at) ≡ Some b) × (label_of f b ≤ g)
    least z g rest high l e =
        let c = on-the-way f tree p z g rest parent-low high e in
        let a = after-least f (children_of f p) at (tree.forest.rise p parent-low)
        (among-children f tree at p is.there up) c.0 c.1 (omega (arith, l, c.2)) in
        (a.0, ap (after at) siblings ∙ a.1, omega (arith, a.2, c.2))

    -- the next sibling comes next
    pub sibling-next : (y : ℕ) → after at (siblings_of f at) ≡ Some y → IsNextNode f x (Some y)
    sibling-next y e = (
      child.0,
      subst (λ q. comes_before q (path_of f y) ≡ true) (sym is.above)
          (parts-before (path_of f at) is.rest (path_of f y)
          (subst (λ q. parts_below q (path_of f y) ≡ true) (sym at-path)
          (subst (λ q. parts_below (path_of f p ++ label ∷ []) q ≡ true) (sym child.2)
          (parts-last (path_of f p) label (label_of f y) rises.1)))),
      λ z high b. elim (cases z high b) [
        | inl parts ↦ before-not (path_of f y) (path_of f z)
            (subst (λ q. comes_before q (path_of f z) ≡ true) (sym child.2)
            (parts-before (path_of f p) (label_of f y ∷ []) (path_of f z) parts))
        | inr way ↦ (
            let a = least z way.0 way.1 high way.2 way.3 in
            let same : a.0 ≡ y = (let s : Some a.0 ≡ Some y = sym a.1 ∙ e in cc) in
            subst (λ q. comes_before q (path_of f y) ≡ false) (sym way.3)
            (subst (λ q. comes_before (path_of f p ++ way.0 ∷ way.1) q ≡ false) (sym child.2)
            (not-before-push (path_of f p) way.0 way.1 (label_of f y)
            (omega (arith, a.2, ap (label_of f) same)))))
      ],
    )
      where
        rises : (holds y (children_of f p) ≡ true) × (label < label_of f y)
        rises = after-rises f (children_of f p) at y (tree.forest.rise p parent-low)
            (sym (ap (after at) siblings) ∙ e)

        child : (y < nodes_of f) × (parent_of f y ≡ Some p)
            × (path_of f y ≡ path_of f p ++ label_of f y ∷ [])
        child = child-of p y parent-low rises.0

    -- without one, all below the parent is passed
    pub passed-up : after at (siblings_of f at) ≡ None → HasPassedBelow x p
    passed-up e = record {
      there = parent-low;
      rest = label ∷ is.rest;
      above = is.above ∙ ap (λ q. q ++ is.rest) at-path
          ∙ append_assoc (path_of f p) (label ∷ []) is.rest;
      passed = λ z high b. elim (cases z high b) [
        | inl parts ↦ parts
        | inr way ↦ (
            let a = least z way.0 way.1 high way.2 way.3 in
            absurd (let none : None ≡ Some a.0 = sym e ∙ a.1 in cc))
      ];
    }

  -- at the root nothing is left
  pub nothing-next : (x at : ℕ) → HasPassedBelow x at → parent_of f at ≡ None →
      IsNextNode f x None
  nothing-next x at is up z high = elim (cases_Bool (comes_before (path_of f x) (path_of f z))) [
    | inl b ↦ absurd (
        let parts = is.passed z high b in
        let none : false ≡ true =
        subst (λ q. parts_below q (path_of f z) ≡ true) (root-path f tree.forest at up) parts in cc)
    | inr g ↦ g
  ]
