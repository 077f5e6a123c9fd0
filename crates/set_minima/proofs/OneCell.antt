-- One entry of a table, and one order in a whole table.
use Rattle.std.proofs.Common.{ap₂, ◌⊎◌, ◌+◌, ℕ, ◌-◌, ◌<◌, ◌≤◌, ◌≡◌, ◌≢◌, true, false, cond, List}
use Rattle.std.proofs.Common.{length, get_or, set, ℤ, pos, Option, leb, le-leb, refl, sym, ap, ◌∙◌}
use Rattle.std.proofs.Common.{arith, inl, inr, eqb, eqb-true, eq-eqb}
use Rattle.std.proofs.lemmas.List.{get_or-set_same, get_or-set_other, length-set}
use Rattle.list_laws.proofs.Tests.{either}
use Rattle.set_minima.specs.Packs.{better, with_price}
use Rattle.set_minima.specs.Cells.{cell, found, IsNear, AreNear}

-- what a table has for a load once an order is let in
abbrev pub raised : ℕ → ℤ → List ℤ → ℕ → Option ℤ
raised weight price table l =
    cond (leb weight l) (better (cell table l) (with_price price (cell table (l - weight))))
    (cell table l)

pub differ : (a b : ℕ) → eqb a b ≡ false → a ≢ b
differ a b e q = let z : eqb a b ≡ true = eq-eqb a b q in let y : true ≡ false = rw z at e in cc

-- the loads from the greatest down: those above l are done, those up to l are as at first
module _ (weight : ℕ) (price : ℤ) (start table : List ℤ) (l : ℕ) (v : ℤ) (here : l < length table)
    (old : (k : ℕ) → k ≤ l → get_or table k (pos 0) ≡ get_or start k (pos 0)) where
  pub entry-done : weight ≤ l →
      found v ≡ better (cell table l) (with_price price (cell table (l - weight))) →
      ((k : ℕ) → l < k → k < length table → cell table k ≡ raised weight price start k) →
      (k : ℕ) → l ≤ k → k < length (set table l v) →
      cell (set table l v) k ≡ raised weight price start k
  entry-done w e done k a b = elim (either (eqb k l)) [
    | inl q ↦ (let s : k ≡ l = eqb-true k l q in rw s new)
    | inr q ↦ (let n : k ≢ l = differ k l q in
        let len : length (set table l v) ≡ length table = length-set table l v in
        ap found (get_or-set_other table l k v (pos 0) n) ∙ done k (omega arith) (omega arith))
  ]
    where
      new : cell (set table l v) l ≡ raised weight price start l
      new =
          let t : leb weight l ≡ true = le-leb weight l w in
          ap found (get_or-set_same table l v (pos 0) here) ∙ e
          ∙ rw (
            t,
            ap found (sym (old l (omega arith))),
            ap found (sym (old (l - weight) (omega arith))),
          ) refl

  pub entry-old : (k : ℕ) → k < l → get_or (set table l v) k (pos 0) ≡ get_or start k (pos 0)
  entry-old k a =
      get_or-set_other table l k v (pos 0) (λ q. absurd (omega arith)) ∙ old k (omega arith)

  pub entry-near : (n : ℕ) → AreNear n table → IsNear n v → AreNear n (set table l v)
  entry-near n h i k = elim (either (eqb k l)) [
    | inl q ↦ (let s : k ≡ l = eqb-true k l q in
        rw (s, get_or-set_same table l v (pos 0) here) i)
    | inr q ↦ rw (get_or-set_other table l k v (pos 0) (differ k l q)) (h k)
  ]

-- loads below the order's weight stay
pub light-stays : (weight : ℕ) (price : ℤ) (start : List ℤ) (k : ℕ) → k < weight →
    cell start k ≡ raised weight price start k
light-stays weight price start k h = elim (either (leb weight k)) [
  | inl t ↦ absurd (grind arith)
  | inr t ↦ rw t
]

-- Cells of a table behind another one, raised by the sets of that one: those below l are done, and
-- nothing else has changed.
module _ (weight : ℕ) (price : ℤ) (start table : List ℤ) (from at width l : ℕ) (v : ℤ)
    (apart : from + width ≤ at) (light : weight ≤ l) (inside : l < width)
    (here : at + l < length table)
    (other : (i : ℕ) → (i < at + weight) ⊎ (at + l ≤ i) →
    get_or table i (pos 0) ≡ get_or start i (pos 0)) where
  abbrev pub from_below : ℕ → Option ℤ
  from_below k =
      better (cell start (at + k)) (with_price price (cell start (from + (k - weight))))

  pub raised-done :
      found v ≡ better (cell table (at + l)) (with_price price (cell table (from + (l - weight)))) →
      ((k : ℕ) → weight ≤ k → k < l → cell table (at + k) ≡ from_below k) →
      (k : ℕ) → weight ≤ k → k < l + 1 → cell (set table (at + l) v) (at + k) ≡ from_below k
  raised-done e done k a b = elim (either (eqb k l)) [
    | inl q ↦ (let s : k ≡ l = eqb-true k l q in rw s new)
    | inr q ↦ (let n : k ≢ l = differ k l q in
        let m : at + k ≢ at + l = (λ e. n (omega arith)) in
        ap found (get_or-set_other table (at + l) (at + k) v (pos 0) m)
        ∙ done k a (omega arith))
  ]
    where
      new : cell (set table (at + l) v) (at + l) ≡ from_below l
      new =
          ap found (get_or-set_same table (at + l) v (pos 0) here) ∙ e
          ∙ ap₂ (λ x y. better x (with_price price y))
          (ap found (other (at + l) (inr (omega arith))))
          (ap found (other (from + (l - weight)) (inl (omega arith))))

  pub raised-other : (i : ℕ) → (i < at + weight) ⊎ (at + (l + 1) ≤ i) →
      get_or (set table (at + l) v) i (pos 0) ≡ get_or start i (pos 0)
  raised-other i (inl h) =
      get_or-set_other table (at + l) i v (pos 0) (λ q. absurd (omega arith)) ∙ other i (inl h)
  raised-other i (inr h) =
      get_or-set_other table (at + l) i v (pos 0) (λ q. absurd (omega arith))
      ∙ other i (inr (omega arith))
