-- Bits of the rows of a table.
use Rattle.std.proofs.Common.{ℕ, ◌+◌, ◌-◌, ◌*◌, ◌/◌, ◌%◌, ◌<◌, ◌≤◌, ◌≡◌, List, length, max, ap}
use Rattle.std.proofs.Common.{ap₂, ◌∙◌, arith, rules, inl, inr, get_or}
use Rattle.std.specs.List.{between}
use borrow.Rule.Slice.PartMut.{put_mid}
use Rattle.std.proofs.lemmas.Bool.{cases_lt}
use Rattle.std.proofs.lemmas.List.{places}
use Rattle.std.proofs.lemmas.List.Edits.{get_or-between, length-between}
use Rattle.std.proofs.lemmas.Nat.{row_fits}
use Rattle.std.specs.Int.{bit_at}
use Rattle.std.proofs.lemmas.Nat.Bits.{bit_at-zero}
use Rattle.pair_split.specs.Tables.{row_bit}
use Rattle.pair_split.specs.Words.{bit}

part-inside : (a n j : ℕ) (xs ys : List ℕ) → a + n ≤ length xs → length ys ≡ n → j < n →
    get_or (put_mid a (a + n - a) xs ys) (a + j) 0 ≡ get_or ys j 0
part-inside a n j xs ys fit len h = search (rules, places)

part-below : (a n j : ℕ) (xs ys : List ℕ) → a + n ≤ length xs → length ys ≡ n → j < a →
    get_or (put_mid a (a + n - a) xs ys) j 0 ≡ get_or xs j 0
part-below a n j xs ys fit len h = search (rules, places)

part-above : (a n j : ℕ) (xs ys : List ℕ) → a + n ≤ length xs → length ys ≡ n → a + n ≤ j →
    get_or (put_mid a (a + n - a) xs ys) j 0 ≡ get_or xs j 0
part-above a n j xs ys fit len h = search (rules, places)

-- rows do not meet
row-before : (r to words j : ℕ) → r < to → j < words → r * words + j < to * words
row-before r to words j h l = let f = row_fits r words to words h (omega arith) in omega (arith, f)

module _ (words : ℕ) (xs : List ℕ) (r : ℕ) where
  pub row-between : (l : ℕ) → l < 64 * words →
      bit (between (r * words) (r * words + words) xs) l ≡ row_bit words xs r l
  unfolding bit row_bit
  row-between l h =
      ap (λ w. bit_at w (l % 64))
      (get_or-between xs (r * words) (r * words + words) (l / 64) 0 (omega arith))

  module _ (ys : List ℕ) (fit : r * words + words ≤ length xs) (len : length ys ≡ words) where
    pub row-put : (l : ℕ) → l < 64 * words →
        row_bit words (put_mid (r * words) (r * words + words - r * words) xs ys) r l ≡ bit ys l
    unfolding bit row_bit
    row-put l h =
        ap (λ w. bit_at w (l % 64))
        (part-inside (r * words) words (l / 64) xs ys fit len (omega arith))

    pub row-kept : (q l : ℕ) → (q ≡ r → ⊥) → l < 64 * words →
        row_bit words (put_mid (r * words) (r * words + words - r * words) xs ys) q l
        ≡ row_bit words xs q l
    unfolding row_bit
    row-kept q l d h = elim (cases_lt q r) [
      | inl a ↦ ap (λ w. bit_at w (l % 64))
          (part-below (r * words) words (q * words + l / 64) xs ys fit len
          (row-before q r words (l / 64) a (omega arith)))
      | inr a ↦ (let f = row-before r q words 0 (omega (arith, d)) in
          ap (λ w. bit_at w (l % 64))
          (part-above (r * words) words (q * words + l / 64) xs ys fit len
          (let g = row_fits r words q words (omega (arith, d, a)) (omega arith) in
          omega (arith, g))))
    ]

pub between-length : (a n : ℕ) (xs : List ℕ) → a + n ≤ length xs →
    length (between a (a + n) xs) ≡ n
between-length a n xs h = search (rules, length-between)

-- a row of the new table after the shift
module _ (words to from weight : ℕ) (new old ys : List ℕ) (fit : to * words + words ≤ length new)
    (len : length ys ≡ length (between (to * words) (to * words + words) new)) where
  pub row-len : length ys ≡ words
  row-len = len ∙ between-length (to * words) words new fit

  pub row-shifted : ((l : ℕ) → weight ≤ l →
      l < 64 * length (between (to * words) (to * words + words) new) →
      bit ys l
      ≡ max (bit (between (to * words) (to * words + words) new) l)
      (bit (between (from * words) (from * words + words) old) (l - weight))) → (l : ℕ) →
      weight ≤ l → l < 64 * words →
      row_bit words (put_mid (to * words) (to * words + words - to * words) new ys) to l
      ≡ max (row_bit words new to l) (row_bit words old from (l - weight))
  row-shifted s l h below =
      let n = between-length (to * words) words new fit in
      row-put words new to ys fit row-len l below
      ∙ s l h (omega (arith, n, below))
      ∙ ap₂ max (row-between words new to l below)
      (row-between words old from (l - weight) (omega arith))

  pub row-low : ((l : ℕ) → l < weight →
      l < 64 * length (between (to * words) (to * words + words) new) →
      bit ys l ≡ bit (between (to * words) (to * words + words) new) l) → (l : ℕ) → l < weight →
      l < 64 * words →
      row_bit words (put_mid (to * words) (to * words + words - to * words) new ys) to l
      ≡ row_bit words new to l
  row-low s l h below =
      let n = between-length (to * words) words new fit in
      row-put words new to ys fit row-len l below
      ∙ s l h (omega (arith, n, below))
      ∙ row-between words new to l below

-- a row of zeros
pub row-zero : (words : ℕ) (table : List ℕ) (r : ℕ) →
    ((j : ℕ) → j < words → get_or table (r * words + j) 0 ≡ 0) → (l : ℕ) → l < 64 * words →
    row_bit words table r l ≡ 0
unfolding row_bit
row-zero words table r zero l h =
    ap (λ w. bit_at w (l % 64)) (zero (l / 64) (omega arith)) ∙ bit_at-zero (l % 64)

pub none-marked : (words : ℕ) (table : List ℕ) → ((k : ℕ) → get_or table k 0 ≡ 0) → (r l : ℕ) →
    row_bit words table r l ≡ 1 → ⊥
unfolding row_bit
none-marked words table zero r l h =
    let e : bit_at (get_or table (r * words + l / 64) 0) (l % 64) ≡ 0 =
    ap (λ w. bit_at w (l % 64)) (zero (r * words + l / 64)) ∙ bit_at-zero (l % 64) in
    absurd (omega (arith, e, h))
