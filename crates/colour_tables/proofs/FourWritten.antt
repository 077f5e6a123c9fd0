-- Four numbers of a list that are written one after another, and the front of a list.
use Rattle.std.proofs.Common.{ℕ, ◌+◌, ◌-◌, ◌*◌, true, cond, leb, le-leb, ap₂, ◌<◌, ◌≤◌, ◌≡◌, ◌≢◌}
use Rattle.std.proofs.Common.{◌⊎◌, List, ◌++◌, length, take, drop, get_or, set, ℤ, pos}
use Rattle.std.proofs.Common.{refl, sym, ap, ◌∙◌, subst, arith, rules, inl, inr}
use Rattle.std.proofs.lemmas.List.{length-set, places, get_or-take, get_or_past, length-take-le}
use Rattle.std.proofs.lemmas.Bool.{cases_lt}
use Rattle.colour_tables.specs.Entries.{entry}
use Rattle.set_minima.specs.Cells.{cell, found, IsNear, AreNear}
use Rattle.set_minima.specs.Packs.{better, with_price}
use Rattle.colour_tables.proofs.NearNumbers.{near-zero}
use Rattle.set_minima.proofs.OneCell.{raised}
use Rattle.colour_tables.proofs.LoadsWritten.{set-same, set-other}
use Rattle.mill_model.specs.declared.prices.TheConstants.{MAX_PRICE}

module _ (t : List ℤ) (a : ℕ) (x y z v : ℤ) (h : a + 4 ≤ length t) where
  abbrev one : List ℤ
  one = set t a x

  abbrev two : List ℤ
  two = set (set t a x) (a + 1) y

  abbrev three : List ℤ
  three = set (set (set t a x) (a + 1) y) (a + 2) z

  abbrev four : List ℤ
  four = set (set (set (set t a x) (a + 1) y) (a + 2) z) (a + 3) v

  long-one : length (set t a x) ≡ length t
  long-one = length-set t a x

  long-two : length (set (set t a x) (a + 1) y) ≡ length t
  long-two = length-set (set t a x) (a + 1) y ∙ long-one

  long-three : length (set (set (set t a x) (a + 1) y) (a + 2) z) ≡ length t
  long-three = length-set (set (set t a x) (a + 1) y) (a + 2) z ∙ long-two

  pub four-other : (l : ℕ) → l < a ⊎ a + 4 ≤ l →
      entry (set (set (set (set t a x) (a + 1) y) (a + 2) z) (a + 3) v) l ≡ entry t l
  four-other l o =
      set-other three (a + 3) l v (apart 3 (omega arith) o)
      ∙ set-other two (a + 2) l z (apart 2 (omega arith) o)
      ∙ set-other one (a + 1) l y (apart 1 (omega arith) o) ∙ set-other t a l x (none o)
    where
      apart : (k : ℕ) → k < 4 → l < a ⊎ a + 4 ≤ l → l ≢ a + k
      apart k b (inl p) q = absurd (omega arith)
      apart k b (inr p) q = absurd (omega arith)

      none : l < a ⊎ a + 4 ≤ l → l ≢ a
      none (inl p) q = absurd (omega arith)
      none (inr p) q = absurd (omega arith)

  first : entry (set (set (set (set t a x) (a + 1) y) (a + 2) z) (a + 3) v) a ≡ x
  first =
      set-other three (a + 3) a v (λ q. absurd (omega arith))
      ∙ set-other two (a + 2) a z (λ q. absurd (omega arith))
      ∙ set-other one (a + 1) a y (λ q. absurd (omega arith)) ∙ set-same t a x (omega arith)

  second : entry (set (set (set (set t a x) (a + 1) y) (a + 2) z) (a + 3) v) (a + 1) ≡ y
  second =
      set-other three (a + 3) (a + 1) v (λ q. absurd (omega arith))
      ∙ set-other two (a + 2) (a + 1) z (λ q. absurd (omega arith))
      ∙ set-same one (a + 1) y (omega (arith, long-one))

  third : entry (set (set (set (set t a x) (a + 1) y) (a + 2) z) (a + 3) v) (a + 2) ≡ z
  third =
      set-other three (a + 3) (a + 2) v (λ q. absurd (omega arith))
      ∙ set-same two (a + 2) z (omega (arith, long-two))

  fourth : entry (set (set (set (set t a x) (a + 1) y) (a + 2) z) (a + 3) v) (a + 3) ≡ v
  fourth = set-same three (a + 3) v (omega (arith, long-three))

  pub four-each : (P : ℕ → ℤ → Type 0) → P a x → P (a + 1) y → P (a + 2) z → P (a + 3) v →
      (l : ℕ) → a ≤ l → l < a + 4 →
      P l (entry (set (set (set (set t a x) (a + 1) y) (a + 2) z) (a + 3) v) l)
  four-each P p q r s l b e = elim (cases_lt l (a + 1)) [
    | inl c ↦ (let k : a ≡ l = omega arith in
        subst (λ i. P i (entry four i)) k (subst (P a) (sym first) p))
    | inr c ↦ elim (cases_lt l (a + 2)) [
      | inl d ↦ (let k : a + 1 ≡ l = omega arith in
          subst (λ i. P i (entry four i)) k (subst (P (a + 1)) (sym second) q))
      | inr d ↦ elim (cases_lt l (a + 3)) [
        | inl f ↦ (let k : a + 2 ≡ l = omega arith in
            subst (λ i. P i (entry four i)) k (subst (P (a + 2)) (sym third) r))
        | inr f ↦ (let k : a + 3 ≡ l = omega arith in
            subst (λ i. P i (entry four i)) k (subst (P (a + 3)) (sym fourth) s))
      ]
    ]
  ]

-- the front is written anew
pub front-in : (m : ℕ) (xs ys : List ℤ) (l : ℕ) → m ≤ length xs → length ys ≡ m → l < m →
    get_or (ys ++ drop m xs) l (pos 0) ≡ get_or ys l (pos 0)
front-in m xs ys l h n b = search (rules, places)

pub front-past : (m : ℕ) (xs ys : List ℤ) (l : ℕ) → m ≤ length xs → length ys ≡ m → m ≤ l →
    get_or (ys ++ drop m xs) l (pos 0) ≡ get_or xs l (pos 0)
front-past m xs ys l h n b = search (rules, places)

-- four loads more, from the greatest down
module _ (weight : ℕ) (price : ℤ) (start table new : List ℤ) (len i a : ℕ)
    (at : a ≡ len - 4 * (i + 1)) (room : weight + 4 * (i + 1) ≤ len)
    (old : (k : ℕ) → k < len - 4 * i → entry table k ≡ entry start k)
    (others : (k : ℕ) → k < a ⊎ a + 4 ≤ k → entry new k ≡ entry table k) where
  pub more-done :
      ((k : ℕ) → len - 4 * i ≤ k → k < len → cell table k
      ≡ better (cell start k) (with_price price (cell start (k - weight)))) →
      ((k : ℕ) → a ≤ k → k < a + 4 → cell new k
      ≡ better (cell table k) (with_price price (cell table (k - weight)))) → (k : ℕ) → a ≤ k →
      k < len → cell new k ≡ better (cell start k) (with_price price (cell start (k - weight)))
  more-done done cells k b e = elim (cases_lt k (a + 4)) [
    | inl d ↦ cells k b d
        ∙ ap₂ (λ u v. better (found u) (with_price price (found v))) (old k (omega arith))
        (old (k - weight) (omega arith))
    | inr d ↦ ap found (others k (inr d)) ∙ done k (omega arith) e
  ]

  pub more-old : (k : ℕ) → k < a → entry new k ≡ entry start k
  more-old k b = others k (inl b) ∙ old k (omega arith)

  pub more-near : (n : ℕ) → AreNear n start → AreNear (n + MAX_PRICE) table →
      (((k : ℕ) → k < a + 4 → IsNear n (entry table k)) → (k : ℕ) → a ≤ k → k < a + 4 →
      IsNear (n + MAX_PRICE) (entry new k)) → AreNear (n + MAX_PRICE) new
  more-near n s t f k = elim (cases_lt k a) [
    | inl b ↦ subst (IsNear (n + MAX_PRICE)) (sym (others k (inl b))) (t k)
    | inr b ↦ elim (cases_lt k (a + 4)) [
      | inl e ↦ f (λ j d. subst (IsNear n) (sym (old j (omega arith))) (s j)) k b e
      | inr e ↦ subst (IsNear (n + MAX_PRICE)) (sym (others k (inr e))) (t k)
    ]
  ]

-- and the loads that are left
module _ (weight : ℕ) (price : ℤ) (start table tail : List ℤ) (len m : ℕ) (heavy : weight ≤ m)
    (fits : m ≤ len) (long : length table ≡ len) (same : length tail ≡ m)
    (old : (k : ℕ) → k < m → entry table k ≡ entry start k) where
  pub last-cells :
      ((k : ℕ) → m ≤ k → k < len → cell table k
      ≡ better (cell start k) (with_price price (cell start (k - weight)))) →
      ((k : ℕ) → k < length (take m table) → cell tail k
      ≡ raised weight price (take m table) k) → (k : ℕ) → k < len →
      cell (tail ++ drop m table) k ≡ raised weight price start k
  last-cells done cells k b = elim (cases_lt k m) [
    | inl e ↦ (let n : length (take m table) ≡ m = length-take-le m table (omega arith) in
        ap found (front-in m table tail k (omega arith) same e) ∙ cells k (omega arith)
        ∙ ap₂ (λ u v. cond (leb weight k) (better (found u) (with_price price (found v))) (found u))
        (get_or-take m table k (pos 0) e ∙ old k e)
        (get_or-take m table (k - weight) (pos 0) (omega arith) ∙ old (k - weight) (omega arith)))
    | inr e ↦ (let t : leb weight k ≡ true = le-leb weight k (omega arith) in
        ap found (front-past m table tail k (omega arith) same e) ∙ done k e b ∙ rw t refl)
  ]

  pub last-near : (n : ℕ) → AreNear n start → AreNear (n + MAX_PRICE) table →
      (AreNear n (take m table) → AreNear (n + MAX_PRICE) tail) →
      AreNear (n + MAX_PRICE) (tail ++ drop m table)
  last-near n s t f k = elim (cases_lt k m) [
    | inl e ↦ subst (IsNear (n + MAX_PRICE))
        (sym (front-in m table tail k (omega arith) same e)) (f (front n s) k)
    | inr e ↦ subst (IsNear (n + MAX_PRICE))
        (sym (front-past m table tail k (omega arith) same e)) (t k)
  ]
    where
      front : (n : ℕ) → AreNear n start → AreNear n (take m table)
      front n s j = elim (cases_lt j m) [
        | inl e ↦ subst (IsNear n)
            (sym (get_or-take m table j (pos 0) e ∙ old j e)) (s j)
        | inr e ↦ subst (IsNear n) (sym (get_or_past (take m table) j (pos 0)
            (let n : length (take m table) ≡ m = length-take-le m table (omega arith) in
            omega arith))) (near-zero n)
      ]
