-- Rows of one width one after another in a flat list.
use Rattle.std.proofs.Common.{ℕ, suc, ◌+◌, ◌*◌, ◌<◌, ◌≤◌, ◌≡◌, ◌≢◌, List, [], ◌∷◌, length, set, ℤ}
use Rattle.std.proofs.Common.{true, false, eqb, not}
use Rattle.std.proofs.Common.{get_or, refl, sym, ap, ◌∙◌, subst, arith, inl, inr, eqb-true, eq-eqb}
use Rattle.std.proofs.lemmas.Bool.{cases_lt}
use Rattle.std.proofs.Math.Nat.{mul-le-mul_right}
use Rattle.list_laws.specs.Sets.{holds}
use Rattle.list_laws.proofs.Tests.{or-cases}
use Rattle.list_laws.proofs.Tests.{and-left}
use Rattle.list_laws.proofs.Tests.{clash}
use Rattle.colour_tables.specs.Threes.{IsSorted, insert, three, but, once, row_entry}
use Rattle.colour_tables.specs.declared.tops.Three.{Three}
use Rattle.colour_tables.specs.Threes.{AreWithin}
use Rattle.colour_tables.proofs.ThreeGreatest.{three-front, three-same, three-sorted, but-holds}
use Rattle.colour_tables.proofs.LoadsWritten.{set-same, set-other}
use Rattle.colour_tables.proofs.RunsLetIn.{not-true}

-- the rows do not overlap
lower : (w d c k l : ℕ) → d < c → k < w → d * w + k ≡ c * w + l → ⊥
lower w d c k l h b q =
    let m : suc d * w ≤ c * w = mul-le-mul_right w (omega arith) in
    let e : suc d * w ≡ d * w + w = once-more d w in
    absurd (omega arith)
  where
    once-more : (d w : ℕ) → suc d * w ≡ d * w + w
    once-more d w = omega arith

pub same-row : (w d c k l : ℕ) → k < w → l < w → d * w + k ≡ c * w + l → d ≡ c
same-row w d c k l a b q = elim (cases_lt d c) [
  | inl h ↦ absurd (lower w d c k l h a q)
  | inr h ↦ elim (cases_lt c d) [
    | inl g ↦ absurd (lower w c d l k g b (sym q))
    | inr g ↦ omega arith
  ]
]

pub other-load : (w d c k l : ℕ) → k < w → l < w → k ≢ l → d * w + k ≢ c * w + l
other-load w d c k l a b n q =
    let e : d ≡ c = same-row w d c k l a b q in
    let f : c * w + k ≡ c * w + l = subst (λ z. z * w + k ≡ c * w + l) e q in
    n (omega arith)

pub other-row : (w d c l : ℕ) → l < w → d ≢ c → d * w + l ≢ c * w + l
other-row w d c l a n q = n (same-row w d c l l a a q)

-- each thing of a list stands somewhere
pub held-at : (x : ℕ) (xs : List ℕ) → holds x xs ≡ true → (i : ℕ) × (i < length xs)
    × (get_or xs i 0 ≡ x)
held-at x [] h = absurd (clash false h refl)
held-at x (y ∷ ys) h = elim (or-cases (eqb x y) (holds x ys) h) [
  | inl e ↦ (0, omega arith, sym (eqb-true x y e))
  | inr k ↦ (let r = held-at x ys k in (suc r.0, omega (arith, r.1), r.2))
]

pub within-held : (width size : ℕ) (present : List ℕ) → AreWithin width size present → (c : ℕ) →
    holds c present ≡ true → c * width + width ≤ size
within-held width size present h c k =
    let r = held-at c present k in
    subst (λ z. z * width + width ≤ size) r.2 (h r.0 r.1)

-- a value is put into a row
module _ (rows : List ℤ) (width c l : ℕ) (value : ℤ) (load : l < width)
    (here : c * width + width ≤ length rows) where
  abbrev now : List ℤ
  now = set rows (c * width + l) value

  pub put-same : row_entry now width l c ≡ value
  put-same = set-same rows (c * width + l) value (omega arith)

  pub put-other-row : (d : ℕ) → d ≢ c → row_entry now width l d ≡ row_entry rows width l d
  put-other-row d n =
      set-other rows (c * width + l) (d * width + l) value (other-row width d c l load n)

  pub put-other-load : (d k : ℕ) → k < width → k ≢ l →
      row_entry now width k d ≡ row_entry rows width k d
  put-other-load d k b n =
      set-other rows (c * width + l) (d * width + k) value (other-load width d c k l b load n)

  pub tops-put : (present : List ℕ) (k : ℕ) → k < width → k ≢ l →
      three (row_entry rows width k) present ≡ three (row_entry now width k) present
  tops-put present k b n =
      three-same (row_entry rows width k) (row_entry now width k) present
      (λ d h. sym (put-other-load d k b n))

  module _ (present : List ℕ) (o : once present ≡ true) (held : holds c present ≡ true) where
    -- the three greatest of the others
    abbrev rest : Three
    rest = three (row_entry rows width l) (but c present)

    pub rest-sorted : IsSorted (three (row_entry rows width l) (but c present))
    rest-sorted = three-sorted (row_entry rows width l) (but c present)

    pub rest-before : three (row_entry rows width l) present
        ≡ insert (row_entry rows width l c) (three (row_entry rows width l) (but c present))
    rest-before = three-front (row_entry rows width l) c present o held

    pub rest-after : three (row_entry now width l) present
        ≡ insert value (three (row_entry rows width l) (but c present))
    rest-after =
        three-front (row_entry now width l) c present o held
        ∙ ap (λ z. insert z (three (row_entry now width l) (but c present))) put-same
        ∙ ap (insert value) (three-same (row_entry now width l) (row_entry rows width l)
        (but c present) (λ d h. put-other-row d (λ q. clash (eqb d c) (eq-eqb d c q)
        (not-true (eqb d c) (and-left (not (eqb d c)) (holds d present)
        (sym (but-holds c d present) ∙ h))))))
