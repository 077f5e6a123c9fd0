-- The paths of the nodes of a tree: a node has its parent's path and its label, two nodes have two
-- paths, and where a path goes on from that of a node, the node has a child on the way.
use Rattle.std.proofs.Common.{ℕ, zero, suc, ◌+◌, ◌<◌, ◌≤◌, ◌≡◌, ◌≢◌, ◌⊎◌, Bool, true, false, ◌||◌}
use Rattle.std.proofs.Common.{List, []}
use Rattle.std.proofs.Common.{◌∷◌, ◌++◌, length, eqb, Option, Some, None, refl, sym, ap, ap₂, ◌∙◌}
use Rattle.std.proofs.Common.{arith, subst, inl, inr, eqb-true, append_assoc}
use Rattle.std.specs.Option.{option_map_or}
use Rattle.std.specs.List.{slice_get}
use Rattle.list_laws.specs.Sets.{holds}
use Rattle.list_laws.proofs.Tests.{either, or-cases}
use Rattle.list_laws.proofs.Times.{push-inj}
use Rattle.mill_laws.proofs.RecordedOnce.{ends}
use Rattle.index_links.specs.Lists.{after}
use Rattle.index_links.specs.Forest.{Forest, IsForest, IsThere, RiseByLabel, children_of, label_of}
use Rattle.index_links.specs.Forest.{nodes_of, nodes_under, parent_of, siblings_of, with_node}
use Rattle.index_links.proofs.LinkedLists.{first-holds, holds-first, holds-rest}
use Rattle.index_links.proofs.WithNode.{label-old, parent-old}
use Rattle.piece_merge.specs.Paths.{IsRooted, labels_to, path_of}

-- Labels on the way.

module _ (f : Forest) (is : IsForest f) where
  labels-at : (steps x : ℕ) (o : Option ℕ) → parent_of f x ≡ o →
      labels_to f (suc steps) x
      ≡ option_map_or (λ p. labels_to f steps p ++ label_of f x ∷ []) o []
  labels-at steps x o e =
      ap (λ p. option_map_or (λ p. labels_to f steps p ++ label_of f x ∷ []) p []) e

  no-parent : (o : Option ℕ) → 0 < nodes_of f → parent_of f 0 ≡ o → o ≡ None
  no-parent None low e = refl
  no-parent (Some p) low e = absurd (omega (arith, is.older 0 p low e))

  labels-none : (steps : ℕ) → 0 < nodes_of f → labels_to f steps 0 ≡ []
  labels-none zero low = refl
  labels-none (suc steps) low = labels-at steps 0 None (no-parent (parent_of f 0) low refl)

  -- more steps than a node has above it give the same labels
  labels-enough : (k m x : ℕ) → x < nodes_of f → x ≤ k → x ≤ m →
      labels_to f k x ≡ labels_to f m x
  labels-enough zero m x low a b =
      let first : x ≡ 0 = omega arith in
      subst (λ y. labels_to f zero y ≡ labels_to f m y) (sym first)
      (sym (labels-none m (omega arith)))
  labels-enough (suc k) zero x low a b =
      let first : x ≡ 0 = omega arith in
      subst (λ y. labels_to f (suc k) y ≡ labels_to f zero y) (sym first)
      (labels-none (suc k) (omega arith))
  labels-enough (suc k) (suc m) x low a b = go (parent_of f x) refl (labels-enough k m)
    where
      go : (o : Option ℕ) → parent_of f x ≡ o →
          ((p : ℕ) → p < nodes_of f → p ≤ k → p ≤ m → labels_to f k p ≡ labels_to f m p) →
          labels_to f (suc k) x ≡ labels_to f (suc m) x
      go None e enough = labels-at k x None e ∙ sym (labels-at m x None e)
      go (Some p) e enough =
          let older = is.older x p low e in
          labels-at k x (Some p) e
          ∙ ap (λ ls. ls ++ label_of f x ∷ [])
          (enough p (omega (arith, older, low)) (omega (arith, older, a))
          (omega (arith, older, b)))
          ∙ sym (labels-at m x (Some p) e)

  pub root-path : (x : ℕ) → parent_of f x ≡ None → path_of f x ≡ []
  root-path zero e = refl
  root-path (suc x) e = labels-at x (suc x) None e

  pub child-path : (x p : ℕ) → x < nodes_of f → parent_of f x ≡ Some p →
      path_of f x ≡ path_of f p ++ label_of f x ∷ []
  child-path zero p low e = absurd (omega (arith, is.older 0 p low e))
  child-path (suc x) p low e =
      let older = is.older (suc x) p low e in
      labels-at x (suc x) (Some p) e
      ∙ ap (λ ls. ls ++ label_of f (suc x) ∷ [])
      (labels-enough x p p (omega (arith, older, low)) (omega (arith, older)) (omega arith))

-- a node keeps its path once another came
pub labels-stay : (f : Forest) → IsForest f → (parent : Option ℕ) (label steps x : ℕ) →
    x < nodes_of f → labels_to (with_node f parent label) steps x ≡ labels_to f steps x
labels-stay f is parent label zero x low = refl
labels-stay f is parent label (suc steps) x low =
    go (parent_of f x) refl (labels-stay f is parent label steps)
  where
    go : (o : Option ℕ) → parent_of f x ≡ o →
        ((p : ℕ) → p < nodes_of f →
        labels_to (with_node f parent label) steps p ≡ labels_to f steps p) →
        labels_to (with_node f parent label) (suc steps) x ≡ labels_to f (suc steps) x
    go None e stay =
        ap (λ p. option_map_or (λ p. labels_to (with_node f parent label) steps p
        ++ label_of (with_node f parent label) x ∷ []) p [])
        (parent-old f is parent label x low ∙ e)
        ∙ sym (labels-at f is steps x None e)
    go (Some p) e stay =
        ap (λ p. option_map_or (λ p. labels_to (with_node f parent label) steps p
        ++ label_of (with_node f parent label) x ∷ []) p [])
        (parent-old f is parent label x low ∙ e)
        ∙ ap₂ (λ ls l. ls ++ l ∷ [])
        (stay p (omega (arith, is.older x p low e, low)))
        (label-old f is parent label x low)
        ∙ sym (labels-at f is steps x (Some p) e)

pub path-stays : (f : Forest) → IsForest f → (parent : Option ℕ) (label x : ℕ) →
    x < nodes_of f → path_of (with_node f parent label) x ≡ path_of f x
path-stays f is parent label x low = labels-stay f is parent label x x low

-- Nodes that rise by label.

pub same-label : (f : Forest) (xs : List ℕ) (a b : ℕ) → RiseByLabel f xs → holds a xs ≡ true →
    holds b xs ≡ true → label_of f a ≡ label_of f b → a ≡ b
same-label f [] a b rise h k e = absurd (cc)
same-label f (x ∷ xs) a b rise h k e =
    elim (or-cases (eqb a x) (holds a xs) h) [
      | inl s ↦ elim (or-cases (eqb b x) (holds b xs) k) [
        | inl t ↦ eqb-true a x s ∙ sym (eqb-true b x t)
        | inr j ↦ absurd (
            let less = rise.0 b j in
            let same = ap (label_of f) (eqb-true a x s) in
            omega (arith, less, same, e))
      ]
      | inr i ↦ elim (or-cases (eqb b x) (holds b xs) k) [
        | inl t ↦ absurd (
            let less = rise.0 a i in
            let same = ap (label_of f) (eqb-true b x t) in
            omega (arith, less, same, e))
        | inr j ↦ same-label f xs a b rise.1 i j e
      ]
    ]

pub first-least : (f : Forest) (xs : List ℕ) (y c : ℕ) → RiseByLabel f xs →
    slice_get xs 0 ≡ Some y → holds c xs ≡ true → label_of f y ≤ label_of f c
first-least f [] y c rise e h = absurd (cc)
first-least f (x ∷ xs) y c rise e h =
    let first : x ≡ y = cc in
    let same = ap (label_of f) first in
    elim (or-cases (eqb c x) (holds c xs) h) [
      | inl s ↦ (let other = ap (label_of f) (eqb-true c x s) in omega (arith, same, other))
      | inr i ↦ (let less = rise.0 c i in omega (arith, less, same))
    ]

-- what stands behind a node has a greater label, and the least of those
pub after-least : (f : Forest) (xs : List ℕ) (x : ℕ) → RiseByLabel f xs → holds x xs ≡ true →
    (c : ℕ) → holds c xs ≡ true → label_of f x < label_of f c →
    (b : ℕ) × (after x xs ≡ Some b) × (label_of f b ≤ label_of f c)
after-least f [] x rise hx c h l = absurd (cc)
after-least f (y ∷ xs) x rise hx c h l = elim (either (eqb x y)) [
  | inl s ↦ rw s (behind s (or-cases (eqb c y) (holds c xs) h))
  | inr g ↦ rw g (after-least f xs x rise.1 (rw g at hx) c (later g (or-cases (eqb c y)
      (holds c xs) h)) l)
]
  where
    first : (zs : List ℕ) → holds c zs ≡ true → RiseByLabel f zs →
        (b : ℕ) × (slice_get zs 0 ≡ Some b) × (label_of f b ≤ label_of f c)
    first [] k r = absurd (cc)
    first (z ∷ zs) k r = (z, refl, first-least f (z ∷ zs) z c r refl k)

    behind : eqb x y ≡ true → (eqb c y ≡ true) ⊎ (holds c xs ≡ true) →
        (b : ℕ) × (slice_get xs 0 ≡ Some b) × (label_of f b ≤ label_of f c)
    behind s (inl t) = absurd (
        let same = ap (label_of f) (eqb-true x y s) in
        let other = ap (label_of f) (eqb-true c y t) in
        omega (arith, same, other, l))
    behind s (inr i) = first xs i rise.1

    later : eqb x y ≡ false → (eqb c y ≡ true) ⊎ (holds c xs ≡ true) → holds c xs ≡ true
    later g (inl t) = absurd (
        let less = rise.0 x (rw g at hx) in
        let same = ap (label_of f) (eqb-true c y t) in
        omega (arith, less, same, l))
    later g (inr i) = i

pub after-rises : (f : Forest) (xs : List ℕ) (x b : ℕ) → RiseByLabel f xs →
    after x xs ≡ Some b → (holds b xs ≡ true) × (label_of f x < label_of f b)
after-rises f [] x b rise e = absurd (cc)
after-rises f (y ∷ xs) x b rise e = elim (either (eqb x y)) [
  | inl s ↦ (
      let here = first-holds xs b (rw s at e) in
      let same = ap (label_of f) (eqb-true x y s) in
      let less = rise.0 b here in
      (holds-rest b y xs here, omega (arith, same, less)))
  | inr g ↦ (
      let r = after-rises f xs x b rise.1 (rw g at e) in (holds-rest b y xs r.0, r.1))
]

-- Paths.

not-pushed : (p : List ℕ) (g : ℕ) (rest : List ℕ) → [] ≢ p ++ g ∷ rest
not-pushed [] g rest e = absurd (cc)
not-pushed (x ∷ p) g rest e = absurd (cc)

module _ (f : Forest) (tree : IsRooted f) where
  is : IsForest f
  is = tree.forest

  -- the children of a node hold those whose parent it is
  pub among-children : (x p : ℕ) → x < nodes_of f → parent_of f x ≡ Some p →
      holds x (children_of f p) ≡ true
  among-children x p low e = subst (λ o. holds x (nodes_under f o) ≡ true) e (is.found x low)

  same-path-from : (k x z : ℕ) (o u : Option ℕ) → parent_of f x ≡ o → parent_of f z ≡ u →
      x ≤ k → x < nodes_of f → z < nodes_of f → path_of f x ≡ path_of f z → x ≡ z
  same-path-from k x z None None i j b low high e =
      tree.root x low i ∙ sym (tree.root z high j)
  same-path-from k x z None (Some q) i j b low high e =
      absurd (not-pushed (path_of f q) (label_of f z) []
      (sym (root-path f is x i) ∙ e ∙ child-path f is z q high j))
  same-path-from k x z (Some p) None i j b low high e =
      absurd (not-pushed (path_of f p) (label_of f x) []
      (sym (root-path f is z j) ∙ sym e ∙ child-path f is x p low i))
  same-path-from zero x z (Some p) (Some q) i j b low high e =
      absurd (omega (arith, is.older x p low i, b))
  same-path-from (suc k) x z (Some p) (Some q) i j b low high e =
      let older = is.older x p low i in
      let younger = is.older z q high j in
      let inj = push-inj (path_of f p) (path_of f q) (label_of f x) (label_of f z)
      (sym (child-path f is x p low i) ∙ e ∙ child-path f is z q high j) in
      let parents : p ≡ q =
      same-path-from k p q (parent_of f p) (parent_of f q) refl refl (omega (arith, older, b))
      (omega (arith, older, low)) (omega (arith, younger, high)) inj.0 in
      same-label f (children_of f q) x z (is.rise q (omega (arith, younger, high)))
      (subst (λ r. holds x (children_of f r) ≡ true) parents (among-children x p low i))
      (among-children z q high j) inj.1

  -- two nodes have two paths
  pub same-path : (x z : ℕ) → x < nodes_of f → z < nodes_of f → path_of f x ≡ path_of f z → x ≡ z
  same-path x z low high e =
      same-path-from x x z (parent_of f x) (parent_of f z) refl refl (omega arith) low high e

  abbrev HasChildOn : ℕ → ℕ → Type 0
  HasChildOn x g = (c : ℕ) × (holds c (children_of f x) ≡ true) × (label_of f c ≡ g)

  on-the-way-from : (k x z g : ℕ) (rest : List ℕ) (o : Option ℕ) → parent_of f z ≡ o → z ≤ k →
      x < nodes_of f → z < nodes_of f → path_of f z ≡ path_of f x ++ g ∷ rest → HasChildOn x g
  on-the-way-from k x z g rest None i b low high e =
      absurd (not-pushed (path_of f x) g rest (sym (root-path f is z i) ∙ e))
  on-the-way-from zero x z g rest (Some y) i b low high e =
      absurd (omega (arith, is.older z y high i, b))
  on-the-way-from (suc k) x z g [] (Some y) i b low high e =
      let inj = push-inj (path_of f y) (path_of f x) (label_of f z) g
      (sym (child-path f is z y high i) ∙ e) in
      let same : y ≡ x = same-path y x (omega (arith, is.older z y high i, high)) low inj.0 in
      (z, subst (λ r. holds z (children_of f r) ≡ true) same (among-children z y high i), inj.1)
  on-the-way-from (suc k) x z g (h ∷ rest) (Some y) i b low high e =
      let r = ends h rest in
      let pushed : path_of f x ++ g ∷ h ∷ rest ≡ (path_of f x ++ g ∷ r.0) ++ r.1 ∷ [] =
      ap (λ l. path_of f x ++ g ∷ l) r.2 ∙ sym (append_assoc (path_of f x) (g ∷ r.0) (r.1 ∷ [])) in
      let inj = push-inj (path_of f y) (path_of f x ++ g ∷ r.0) (label_of f z) r.1
      (sym (child-path f is z y high i) ∙ e ∙ pushed) in
      let older = is.older z y high i in
      on-the-way-from k x y g r.0 (parent_of f y) refl (omega (arith, older, b)) low
      (omega (arith, older, high)) inj.0

  -- where a path goes on from that of a node by a number, the node has a child of this label
  pub on-the-way : (x z g : ℕ) (rest : List ℕ) → x < nodes_of f → z < nodes_of f →
      path_of f z ≡ path_of f x ++ g ∷ rest → HasChildOn x g
  on-the-way x z g rest low high e =
      on-the-way-from z x z g rest (parent_of f z) refl (omega arith) low high e
