-- When one path comes before another: it goes on as the other, or they part and it goes lower.
use Rattle.std.proofs.Common.{ℕ, ◌<◌, ◌≤◌, ◌≡◌, ◌⊎◌, Bool, true, false, ◌&&◌, ◌||◌, List, [], ◌∷◌}
use Rattle.std.proofs.Common.{◌++◌, eqb, ltb, refl, sym, ap, ap₂, ◌∙◌, arith, inl, inr, subst}
use Rattle.std.proofs.Common.{eq-eqb, le-ltb}
use Rattle.list_laws.proofs.Tests.{head-cases}
use Rattle.refute_log.specs.Rising.{comes_before}
use Rattle.refute_log.proofs.Order.{head-less, head-same}

-- whether two paths part where the first has the lesser number
abbrev pub parts_below : List ℕ → List ℕ → Bool
parts_below [] q = false
parts_below (g ∷ p) [] = false
parts_below (g ∷ p) (h ∷ q) = ltb g h || (eqb g h && parts_below p q)

pub before-cases : (p q : List ℕ) → comes_before p q ≡ true →
    (parts_below p q ≡ true) ⊎ ((g : ℕ) × (rest : List ℕ) × (q ≡ p ++ g ∷ rest))
before-cases [] [] e = absurd (cc)
before-cases [] (h ∷ q) e = inr (h, q, refl)
before-cases (g ∷ p) [] e = absurd (cc)
before-cases (g ∷ p) (h ∷ q) e = elim (head-cases g h (comes_before p q) e) [
  | inl l ↦ inl (head-less g h (parts_below p q) l)
  | inr s ↦ elim (before-cases p q s.1) [
    | inl b ↦ inl (head-same g h (parts_below p q) s.0 b)
    | inr r ↦ inr (r.0, r.1, ap₂ (λ x xs. x ∷ xs) (sym s.0) r.2)
  ]
]

-- one number more parts no later, and else goes lower there
pub parts-push : (p : List ℕ) (l : ℕ) (q : List ℕ) → parts_below (p ++ l ∷ []) q ≡ true →
    (parts_below p q ≡ true)
    ⊎ ((g : ℕ) × (rest : List ℕ) × (l < g) × (q ≡ p ++ g ∷ rest))
parts-push [] l [] e = absurd (cc)
parts-push [] l (h ∷ q) e = elim (head-cases l h false e) [
  | inl b ↦ inr (h, q, b, refl)
  | inr s ↦ absurd (let none : false ≡ true = s.1 in cc)
]
parts-push (g ∷ p) l [] e = absurd (cc)
parts-push (g ∷ p) l (h ∷ q) e = elim (head-cases g h (parts_below (p ++ l ∷ []) q) e) [
  | inl b ↦ inl (head-less g h (parts_below p q) b)
  | inr s ↦ elim (parts-push p l q s.1) [
    | inl b ↦ inl (head-same g h (parts_below p q) s.0 b)
    | inr r ↦ inr (r.0, r.1, r.2, ap₂ (λ x xs. x ∷ xs) (sym s.0) r.3)
  ]
]

-- what parts below a path comes before it, however it goes on
pub parts-before : (p rest q : List ℕ) → parts_below p q ≡ true →
    comes_before (p ++ rest) q ≡ true
parts-before [] rest q e = absurd (cc)
parts-before (g ∷ p) rest [] e = absurd (cc)
parts-before (g ∷ p) rest (h ∷ q) e = elim (head-cases g h (parts_below p q) e) [
  | inl b ↦ head-less g h (comes_before (p ++ rest) q) b
  | inr s ↦ head-same g h (comes_before (p ++ rest) q) s.0 (parts-before p rest q s.1)
]

pub parts-last : (p : List ℕ) (l m : ℕ) → l < m → parts_below (p ++ l ∷ []) (p ++ m ∷ []) ≡ true
parts-last [] l m b = head-less l m false b
parts-last (g ∷ p) l m b = head-same g g (parts_below (p ++ l ∷ []) (p ++ m ∷ [])) refl
    (parts-last p l m b)

-- what goes on from a path by a number does not come before it with a number that is no greater
pub not-before-push : (p : List ℕ) (g : ℕ) (rest : List ℕ) (l : ℕ) → l ≤ g →
    comes_before (p ++ g ∷ rest) (p ++ l ∷ []) ≡ false
not-before-push [] g [] l b =
    let no_less : ltb g l ≡ false = le-ltb g l b in rw no_less (none (eqb g l))
  where
    none : (b : Bool) → (b && false) ≡ false
    none true = refl
    none false = refl
not-before-push [] g (r ∷ rest) l b =
    let no_less : ltb g l ≡ false = le-ltb g l b in rw no_less (none (eqb g l))
  where
    none : (b : Bool) → (b && false) ≡ false
    none true = refl
    none false = refl
not-before-push (h ∷ p) g rest l b =
    let no_less : ltb h h ≡ false = le-ltb h h (omega arith) in
    let same : eqb h h ≡ true = eq-eqb h h refl in
    rw (no_less, same) (not-before-push p g rest l b)
