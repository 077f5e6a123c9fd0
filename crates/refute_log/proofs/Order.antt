-- The order of paths: strict, total, and what `compare` answers.
use Rattle.std.proofs.Common.{ℕ, ◌<◌, ◌≡◌, ◌⊎◌, Bool, true, false, ◌&&◌, ◌||◌, List, [], ◌∷◌, ◌++◌}
use Rattle.std.proofs.Common.{eqb, ltb, refl, sym, ◌∙◌, subst, arith, inl, inr, eqb-true, eq-eqb}
use Rattle.std.proofs.Common.{lt-ltb, le-ltb}
use Rattle.std.proofs.lemmas.Bool.{cases_Bool}
use Rattle.std.proofs.lemmas.Bool.Decides.{nat_tests}
use Rattle.std.specs.Prelude.{◌==◌}
use Rattle.std.specs.Ordering.{ordering_index}
use Rattle.std.specs.declared.cmp.Ordering.{Ordering}
use Rattle.std.specs.declared.cmp.Ordering.TheVariants as order
use Rattle.list_laws.proofs.Tests.{head-cases}
use Rattle.list_laws.proofs.Times.{same_list-eq}
use Rattle.list_laws.specs.Sets.{same_list}
use Rattle.refute_log.specs.Rising.{comes_before, path_order}

pub head-less : (g h : ℕ) (b : Bool) → g < h → (ltb g h || (eqb g h && b)) ≡ true
head-less g h b l = let e : ltb g h ≡ true = lt-ltb g h l in rw e refl

pub head-same : (g h : ℕ) (b : Bool) → g ≡ h → b ≡ true → (ltb g h || (eqb g h && b)) ≡ true
head-same g h b q e =
    let f : eqb g h ≡ true = eq-eqb g h q in
    elim (cases_Bool (ltb g h)) [ inl l ↦ rw l refl | inr l ↦ rw (l, f, e) refl ]

pub before-trans : (p q r : List ℕ) → comes_before p q ≡ true → comes_before q r ≡ true
    → comes_before p r ≡ true
before-trans [] [] r a b = absurd (grind arith)
before-trans [] (h ∷ q) [] a b = absurd (grind arith)
before-trans [] (h ∷ q) (i ∷ r) a b = refl
before-trans (g ∷ p) [] r a b = absurd (grind arith)
before-trans (g ∷ p) (h ∷ q) [] a b = absurd (grind arith)
before-trans (g ∷ p) (h ∷ q) (i ∷ r) a b =
    go (head-cases g h (comes_before p q) a) (head-cases h i (comes_before q r) b)
    (before-trans p q r)
  where
    go : (g < h) ⊎ ((g ≡ h) × (comes_before p q ≡ true))
        → (h < i) ⊎ ((h ≡ i) × (comes_before q r ≡ true))
        → (comes_before p q ≡ true → comes_before q r ≡ true → comes_before p r ≡ true)
        → (ltb g i || (eqb g i && comes_before p r)) ≡ true
    go (inl x) (inl y) ih = head-less g i _ (omega arith)
    go (inl x) (inr y) ih = let e : h ≡ i = y.0 in head-less g i _ (omega arith)
    go (inr x) (inl y) ih = let e : g ≡ h = x.0 in head-less g i _ (omega arith)
    go (inr x) (inr y) ih = head-same g i _ (x.0 ∙ y.0) (ih x.1 y.1)

pub before-irrefl : (p : List ℕ) → comes_before p p ≡ false
before-irrefl [] = refl
before-irrefl (g ∷ p) =
    let ih : comes_before p p ≡ false = before-irrefl p in
    let l : ltb g g ≡ false = le-ltb g g (omega arith) in
    let e : eqb g g ≡ true = eq-eqb g g refl in rw (l, e, ih) refl

pub before-differs : (p q : List ℕ) → comes_before p q ≡ true → same_list p q ≡ false
before-differs p q h = elim (cases_Bool (same_list p q)) [
  | inl s ↦ (
      let e : p ≡ q = same_list-eq p q s in
      let k : comes_before q q ≡ true = subst (λ x. comes_before x q ≡ true) e h in
      let z : comes_before q q ≡ false = before-irrefl q in absurd (grind arith)
      )
  | inr s ↦ s
]

pub same-sym : (p q : List ℕ) → same_list p q ≡ same_list q p
same-sym [] [] = refl
same-sym [] (y ∷ ys) = refl
same-sym (x ∷ xs) [] = refl
same-sym (x ∷ xs) (y ∷ ys) =
    let ih : same_list xs ys ≡ same_list ys xs = same-sym xs ys in
    elim (cases_Bool (eqb x y)) [
      | inl e ↦ (
          let q : x ≡ y = eqb-true x y e in
          let f : eqb y x ≡ true = eq-eqb y x (sym q) in rw (e, f) ih
          )
      | inr e ↦ (let f : eqb y x ≡ false = grind (arith, nat_tests) in rw (e, f) refl)
    ]

pub after-differs : (p q : List ℕ) → comes_before p q ≡ true → same_list q p ≡ false
after-differs p q h = same-sym q p ∙ before-differs p q h

-- of two different paths one comes first
pub before-total : (p q : List ℕ) → same_list p q ≡ false → comes_before p q ≡ false
    → comes_before q p ≡ true
before-total [] [] s b = absurd (grind arith)
before-total [] (h ∷ q) s b = absurd (grind arith)
before-total (g ∷ p) [] s b = refl
before-total (g ∷ p) (h ∷ q) s b = elim (cases_Bool (eqb g h)) [
  | inl e ↦ (
      let k : same_list p q ≡ false = rw e at s in let l : g ≡ h = eqb-true g h e in
      head-same h g _ (sym l) (before-total p q k (not-later l b))
      )
  | inr e ↦ head-less h g _ (below-it e b)
]
  where
    not-later : g ≡ h → (ltb g h || (eqb g h && comes_before p q)) ≡ false
        → comes_before p q ≡ false
    not-later l k =
        let e : eqb g h ≡ true = eq-eqb g h l in
        let f : ltb g h ≡ false = le-ltb g h (omega arith) in rw (f, e) at k

    below-it : eqb g h ≡ false → (ltb g h || (eqb g h && comes_before p q)) ≡ false → h < g
    below-it e k = elim (cases_Bool (ltb g h)) [
      | inl l ↦ absurd (let z : true ≡ false = rw l at k in cc)
      | inr l ↦ grind (arith, nat_tests)
    ]

-- a path comes before its extensions
pub before-child : (p : List ℕ) (g : ℕ) → comes_before p (p ++ g ∷ []) ≡ true
before-child [] g = refl
before-child (h ∷ p) g = head-same h h _ refl (before-child p g)

pub order-same : (p q : List ℕ) → path_order p q ≡ order.Equal → same_list p q ≡ true
order-same [] [] e = refl
order-same [] (h ∷ q) e = absurd (let z : order.Less ≡ order.Equal = e in cc)
order-same (g ∷ p) [] e = absurd (let z : order.Greater ≡ order.Equal = e in cc)
order-same (g ∷ p) (h ∷ q) e = elim (cases_Bool (ltb g h)) [
  | inl a ↦ absurd (let z : order.Less ≡ order.Equal = rw a at e in cc)
  | inr a ↦ elim (cases_Bool (ltb h g)) [
    | inl b ↦ absurd (let z : order.Greater ≡ order.Equal = rw (a, b) at e in cc)
    | inr b ↦ (
        let k : eqb g h ≡ true = grind (arith, nat_tests) in
        rw k (order-same p q (rw (a, b) at e))
        )
  ]
]

pub order-before : (p q : List ℕ) → path_order p q ≡ order.Less → comes_before p q ≡ true
order-before [] [] e = absurd (let z : order.Equal ≡ order.Less = e in cc)
order-before [] (h ∷ q) e = refl
order-before (g ∷ p) [] e = absurd (let z : order.Greater ≡ order.Less = e in cc)
order-before (g ∷ p) (h ∷ q) e = elim (cases_Bool (ltb g h)) [
  | inl a ↦ rw a refl
  | inr a ↦ elim (cases_Bool (ltb h g)) [
    | inl b ↦ absurd (let z : order.Greater ≡ order.Less = rw (a, b) at e in cc)
    | inr b ↦ (
        let k : eqb g h ≡ true = grind (arith, nat_tests) in
        rw (a, k) (order-before p q (rw (a, b) at e))
        )
  ]
]

pub order-after : (p q : List ℕ) → path_order p q ≡ order.Greater → comes_before q p ≡ true
order-after [] [] e = absurd (let z : order.Equal ≡ order.Greater = e in cc)
order-after [] (h ∷ q) e = absurd (let z : order.Less ≡ order.Greater = e in cc)
order-after (g ∷ p) [] e = refl
order-after (g ∷ p) (h ∷ q) e = elim (cases_Bool (ltb h g)) [
  | inl a ↦ rw a refl
  | inr a ↦ elim (cases_Bool (ltb g h)) [
    | inl b ↦ absurd (let z : order.Less ≡ order.Greater = rw b at e in cc)
    | inr b ↦ (
        let k : eqb h g ≡ true = grind (arith, nat_tests) in
        rw (a, k) (order-after p q (rw (b, a) at e))
        )
  ]
]

pub before-not : (p q : List ℕ) → comes_before p q ≡ true → comes_before q p ≡ false
before-not p q h = elim (cases_Bool (comes_before q p)) [
  | inl k ↦ (
      let a : comes_before p p ≡ true = before-trans p q p h k in
      let b : comes_before p p ≡ false = before-irrefl p in
      absurd (let z : true ≡ false = rw a at b in cc)
      )
  | inr k ↦ k
]

-- `compare` answers `Less` where one path comes before the other
pub order-index : (p q : List ℕ) → (ordering_index (path_order p q) == 0) ≡ comes_before p q
order-index p q = by_answer (path_order p q) refl
  where
    by_answer : (o : Ordering) → path_order p q ≡ o → (ordering_index o == 0) ≡ comes_before p q
    by_answer order.Less e = sym (order-before p q e)
    by_answer order.Equal e =
        let s : p ≡ q = same_list-eq p q (order-same p q e) in
        sym (subst (λ x. comes_before x q ≡ false) (sym s) (before-irrefl q))
    by_answer order.Greater e = sym (before-not q p (order-after p q e))
