-- Bits of shifted words.
use Rattle.std.proofs.Common.{ℕ, ◌+◌, ◌-◌, ◌*◌, ◌/◌, ◌%◌, ◌^◌, ◌<◌, ◌≤◌, ◌≡◌, List, length, max}
use Rattle.std.proofs.Common.{refl, sym, ap, ap₂, ◌∙◌, arith, inl, inr, subst, get_or, set}
use Rattle.std.proofs.Common.{get_or-set_same, get_or-set_other, eqb, true, eq-eqb, eqb-true, w64}
use Rattle.std.proofs.lemmas.Bool.{cases_eq, cases_lt}
use Rattle.std.proofs.lemmas.Nat.{shr-shr, pow_pos}
use Rattle.std.proofs.lemmas.Nat.Bits.{bit_at_or, bit_at-zero, shr_and_one, bit_at_above}
use Rattle.std.proofs.lemmas.Nat.Bits.{bit_at_cat_low, bit_at_cat_high, bit_at_set_same}
use Rattle.std.proofs.lemmas.Nat.Bits.{bit_at_set_other}
use Rattle.std.specs.Prelude.{bit_and, bit_or, ◌↔◌}
use Rattle.std.specs.Int.{bit_at}
use Rattle.pair_split.specs.Words.{bit}

-- a bit of a list, by its word and its place there
pub bit-in : (xs : List ℕ) (j i : ℕ) → i < 64 → bit xs (64 * j + i) ≡ bit_at (get_or xs j 0) i
unfolding bit
bit-in xs j i h =
    let a : (64 * j + i) / 64 ≡ j = omega arith in
    let b : (64 * j + i) % 64 ≡ i = omega arith in
    ap₂ (λ x y. bit_at (get_or xs x 0) y) a b

pub bit-at : (xs : List ℕ) (l j i : ℕ) → i < 64 → l ≡ 64 * j + i →
    bit xs l ≡ bit_at (get_or xs j 0) i
bit-at xs l j i h e = ap (bit xs) e ∙ bit-in xs j i h

pub bit-tests : (xs : List ℕ) (l : ℕ) →
    (eqb (bit_and (get_or xs (l / 64) 0 / 2 ^ (l % 64)) 1) 1 ≡ true) ↔ bit xs l ≡ 1
unfolding bit
bit-tests xs l = rw shr_and_one (eqb-true _ 1, eq-eqb _ 1)

pub bit-set : (xs : List ℕ) (l : ℕ) → l < 64 * length xs →
    bit (set xs (l / 64) (bit_or (get_or xs (l / 64) 0) (1 * 2 ^ (l % 64) % 2 ^ 64))) l ≡ 1
unfolding bit
bit-set xs l h =
    ap (λ w. bit_at w (l % 64)) (get_or-set_same xs (l / 64) _ 0 (omega arith))
    ∙ bit_at_set_same w64 (get_or xs (l / 64) 0) (l % 64) (omega arith)

pub bit-kept : (xs : List ℕ) (l k : ℕ) → l < 64 * length xs → (k ≡ l → ⊥) →
    bit (set xs (l / 64) (bit_or (get_or xs (l / 64) 0) (1 * 2 ^ (l % 64) % 2 ^ 64))) k ≡ bit xs k
unfolding bit
bit-kept xs l k h n = elim (cases_eq (k / 64) (l / 64)) [
  | inr d ↦ ap (λ w. bit_at w (k % 64)) (get_or-set_other xs (l / 64) (k / 64) _ 0 d)
  | inl e ↦
      ap (λ j. bit_at
      (get_or (set xs (l / 64) (bit_or (get_or xs (l / 64) 0) (1 * 2 ^ (l % 64) % 2 ^ 64))) j 0)
      (k % 64)) e
      ∙ ap (λ w. bit_at w (k % 64)) (get_or-set_same xs (l / 64) _ 0 (omega arith))
      ∙ bit_at_set_other w64 (get_or xs (l / 64) 0) (l % 64) (omega arith) (k % 64)
      (λ q. n (omega (arith, q, e)))
      ∙ ap (λ j. bit_at (get_or xs j 0) (k % 64)) (sym e)
]

low-bits : (x i : ℕ) → i < 64 → bit_at (x % 2 ^ 64) i ≡ bit_at x i
low-bits x i h =
    let e : x ≡ x / 2 ^ 64 * 2 ^ 64 + x % 2 ^ 64 = omega arith in
    sym (ap (λ y. bit_at y i) e ∙ bit_at_cat_low (x / 2 ^ 64) 64 (x % 2 ^ 64) i h)

-- `a << k`
pub shl-high : (a k i : ℕ) → k ≤ i → i < 64 → bit_at (a * 2 ^ k % 2 ^ 64) i ≡ bit_at a (i - k)
shl-high a k i from h =
    let e : a * 2 ^ k ≡ a * 2 ^ k + 0 = omega arith in
    low-bits (a * 2 ^ k) i h ∙ ap (λ y. bit_at y i) e ∙ bit_at_cat_high a k 0 i (pow_pos k) from

pub shl-low : (a k i : ℕ) → i < k → i < 64 → bit_at (a * 2 ^ k % 2 ^ 64) i ≡ 0
shl-low a k i below h =
    let e : a * 2 ^ k ≡ a * 2 ^ k + 0 = omega arith in
    low-bits (a * 2 ^ k) i h
    ∙ ap (λ y. bit_at y i) e
    ∙ bit_at_cat_low a k 0 i below
    ∙ bit_at-zero i

-- `a >> k`
pub shr-at : (a k i : ℕ) → bit_at (a / 2 ^ k) i ≡ bit_at a (k + i)
shr-at a k i = ap (λ x. x % 2) (shr-shr a k i)

-- `(low >> 1) >> (63 - part)`
low-part : (low part i : ℕ) → part < 64 →
    bit_at (low / 2 / 2 ^ (63 - part)) i ≡ bit_at low (64 - part + i)
low-part low part i h =
    let e : 1 + (63 - part + i) ≡ 64 - part + i = omega arith in
    shr-at (low / 2) (63 - part) i ∙ shr-at low 1 (63 - part + i) ∙ ap (bit_at low) e

pub joined-high : (high low part i : ℕ) → low < 2 ^ 64 → part < 64 → part ≤ i → i < 64 →
    bit_at (bit_or (high * 2 ^ part % 2 ^ 64) (low / 2 / 2 ^ (63 - part))) i
    ≡ bit_at high (i - part)
joined-high high low part i fits h from below =
    let a = bit_at_or (high * 2 ^ part % 2 ^ 64) (low / 2 / 2 ^ (63 - part)) i in
    let b = shl-high high part i from below in
    let c = low-part low part i h in
    let d = bit_at_above low 64 (64 - part + i) fits (omega arith) in
    omega (arith, a, b, c, d)

pub joined-low : (high low part i : ℕ) → part < 64 → i < part →
    bit_at (bit_or (high * 2 ^ part % 2 ^ 64) (low / 2 / 2 ^ (63 - part))) i
    ≡ bit_at low (64 - part + i)
joined-low high low part i h below =
    let a = bit_at_or (high * 2 ^ part % 2 ^ 64) (low / 2 / 2 ^ (63 - part)) i in
    let b = shl-low high part i below (omega arith) in
    let c = low-part low part i h in
    omega (arith, a, b, c)

-- a word of the list of bits that are set in `old`, or `weight` places below in `from`
pub record IsShifted (old from : List ℕ) (weight j word : ℕ) : Type 0 where
  pub high : (i : ℕ) → i < 64 → weight ≤ 64 * j + i →
      bit_at word i ≡ max (bit_at (get_or old j 0) i) (bit from (64 * j + i - weight))
  pub low : (i : ℕ) → i < 64 → 64 * j + i < weight → bit_at word i ≡ bit_at (get_or old j 0) i

module _ (old from : List ℕ) (weight : ℕ) where
  pub shifted-before : (j : ℕ) → j < weight / 64 → IsShifted old from weight j (get_or old j 0)
  shifted-before j h = record { high = λ i a b. absurd (omega arith); low = λ i a b. refl }

  pub shifted-first : IsShifted old from weight (weight / 64)
      (bit_or (get_or old (weight / 64) 0) (get_or from 0 0 * 2 ^ (weight % 64) % 2 ^ 64))
  shifted-first = record {
    high = λ i a b. (let o = bit_at_or (get_or old (weight / 64) 0)
        (get_or from 0 0 * 2 ^ (weight % 64) % 2 ^ 64) i in
        let s = shl-high (get_or from 0 0) (weight % 64) i (omega arith) a in
        let f = bit-at from (64 * (weight / 64) + i - weight) 0 (i - weight % 64) (omega arith)
        (omega arith) in
        omega (arith, o, s, f));
    low = λ i a b. (let o = bit_at_or (get_or old (weight / 64) 0)
        (get_or from 0 0 * 2 ^ (weight % 64) % 2 ^ 64) i in
        let s = shl-low (get_or from 0 0) (weight % 64) i (omega arith) a in
        omega (arith, o, s));
  }

  pub shifted-next : (j word : ℕ) → weight / 64 < j →
      ((i : ℕ) → weight % 64 ≤ i → i < 64 →
      bit_at word i ≡ bit_at (get_or from (j - weight / 64) 0) (i - weight % 64)) →
      ((i : ℕ) → i < weight % 64 →
      bit_at word i ≡ bit_at (get_or from (j - weight / 64 - 1) 0) (64 - weight % 64 + i)) →
      IsShifted old from weight j (bit_or (get_or old j 0) word)
  shifted-next j word h high low = record {
    high = λ i a b. (let o = bit_at_or (get_or old j 0) word i in
        elim (cases_lt i (weight % 64)) [
          | inl l ↦ (let s = low i l in
              let f = bit-at from (64 * j + i - weight) (j - weight / 64 - 1)
              (64 - weight % 64 + i) (omega arith) (omega arith) in
              omega (arith, o, s, f))
          | inr g ↦ (let s = high i g a in
              let f = bit-at from (64 * j + i - weight) (j - weight / 64) (i - weight % 64)
              (omega arith) (omega arith) in
              omega (arith, o, s, f))
        ]);
    low = λ i a b. absurd (omega arith);
  }

  -- where all words are such ones, so are the bits
  pub bits-shifted : (n : ℕ) (new : List ℕ) →
      ((j : ℕ) → j < n → IsShifted old from weight j (get_or new j 0)) → (l : ℕ) → weight ≤ l →
      l < 64 * n → bit new l ≡ max (bit old l) (bit from (l - weight))
  bits-shifted n new each l h below =
      let e : l ≡ 64 * (l / 64) + l % 64 = omega arith in
      let a = bit-at new l (l / 64) (l % 64) (omega arith) e in
      let b = bit-at old l (l / 64) (l % 64) (omega arith) e in
      let c = (each (l / 64) (omega arith)).high (l % 64) (omega arith) (omega arith) in
      let d : bit from (64 * (l / 64) + l % 64 - weight) ≡ bit from (l - weight) =
      ap (λ x. bit from (x - weight)) (sym e) in
      omega (arith, a, b, c, d)

  pub bits-low : (n : ℕ) (new : List ℕ) →
      ((j : ℕ) → j < n → IsShifted old from weight j (get_or new j 0)) → (l : ℕ) → l < weight →
      l < 64 * n → bit new l ≡ bit old l
  bits-low n new each l h below =
      let e : l ≡ 64 * (l / 64) + l % 64 = omega arith in
      let a = bit-at new l (l / 64) (l % 64) (omega arith) e in
      let b = bit-at old l (l / 64) (l % 64) (omega arith) e in
      let c = (each (l / 64) (omega arith)).low (l % 64) (omega arith) (omega arith) in
      omega (arith, a, b, c)

  -- one word more
  pub shifted-set : (now : List ℕ) (k word : ℕ) → k < length now →
      ((j : ℕ) → j < k → IsShifted old from weight j (get_or now j 0)) →
      IsShifted old from weight k word → (j : ℕ) → j < k + 1 →
      IsShifted old from weight j (get_or (set now k word) j 0)
  shifted-set now k word h each w j l = elim (cases_eq j k) [
    | inl e ↦ subst (λ n. IsShifted old from weight n (get_or (set now k word) n 0)) (sym e)
        (subst (λ x. IsShifted old from weight k x) (sym (get_or-set_same now k word 0 h)) w)
    | inr d ↦ subst (λ x. IsShifted old from weight j x) (sym (get_or-set_other now k j word 0 d))
        (each j (omega (arith, d)))
  ]

pub rest-set : (old now : List ℕ) (k word : ℕ) →
    ((j : ℕ) → k ≤ j → get_or now j 0 ≡ get_or old j 0) → (j : ℕ) → k + 1 ≤ j →
    get_or (set now k word) j 0 ≡ get_or old j 0
rest-set old now k word rest j l =
    get_or-set_other now k j word 0 (λ e. absurd (omega (arith, e))) ∙ rest j (omega arith)
