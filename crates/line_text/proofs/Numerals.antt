-- A word is a canonical number where its digits are, and then it is `decimal` of their value.
use Rattle.std.proofs.Common.{ℕ, zero, suc, ◌+◌, ◌-◌, ◌^◌, ◌<◌, ◌≤◌, ◌≡◌, ◌⊎◌, inl, inr}
use Rattle.std.proofs.Common.{true, false, not, List, [], ◌∷◌, ◌++◌, length, take, drop}
use Rattle.std.proofs.Common.{get_or, eqb, refl, sym, ap, ap₂, ◌∙◌, arith, eq-eqb}
use Rattle.std.proofs.Common.{eqb-true, take_all, slice_range, min, ◌≢◌}
use Rattle.std.proofs.lemmas.Bool.{cases_Bool, and_parts}
use Rattle.std.proofs.lemmas.List.{append-nil}
use Rattle.std.proofs.lemmas.List.Splits.{join_with_byte-slice_split}
use Rattle.std.specs.List.{list_all}
use Rattle.std.proofs.lemmas.Fmt.{decimal_nonempty, first_decimal, decimal_digit, decimal_injective}
use Rattle.std.specs.Fmt.{decimal}
use Rattle.std.proofs.lemmas.Bool.Decides.{nat_tests}
use Rattle.std.proofs.Math.Seq.{take-append_seam, get_or-append_seam}
use Rattle.line_text.specs.Words.{line_words, line_of, BeginsWith}
use Rattle.line_text.proofs.Cuts.{lacks, words-alone, words-first, at-place, range-drop}
use Rattle.line_text.specs.Numbers.{is_digit, value, is_canonical}
use Rattle.line_text.proofs.LeadingDigits.{digits-decimal, value-decimal, decimal-value, run}
use Rattle.line_text.proofs.LeadingDigits.{digits-run, run-digits}

canonical-from : (digits : List ℕ) → 0 < length digits
    → (get_or digits 0 0 ≡ 48 → length digits ≡ 1) → is_canonical digits ≡ true
canonical-from [] h k = absurd (omega arith)
canonical-from (d ∷ []) h k = refl
canonical-from (d ∷ e ∷ digits) h k = elim (cases_Bool (eqb d 48)) [
  | inl q ↦ absurd
      (let z : suc (suc (length digits)) ≡ 1 = k (eqb-true d 48 q) in omega arith)
  | inr q ↦ rw q refl
]

canonical-to : (digits : List ℕ) → is_canonical digits ≡ true
    → (0 < length digits) × (get_or digits 0 0 ≡ 48 → length digits ≡ 1)
canonical-to [] h = absurd (grind arith)
canonical-to (d ∷ []) h = (omega arith, λ _. refl)
canonical-to (d ∷ e ∷ digits) h = (
  omega arith,
  λ q. absurd (let z : eqb d 48 ≡ true = eq-eqb d 48 q in
      let y : not true ≡ true = rw z at h in let x : false ≡ true = y in cc),
)

-- canonical digits are what `decimal` writes of their value
pub canonical-decimal : (bytes : List ℕ) → is_canonical (take (run bytes) bytes) ≡ true
    → value (take (run bytes) bytes) < 2 ^ 64
    → take (run bytes) bytes ≡ decimal (value (take (run bytes) bytes))
canonical-decimal bytes c h =
    let k = canonical-to (take (run bytes) bytes) c in
    sym (decimal-value (take (run bytes) bytes) (digits-run bytes) k.0 k.1 h)

is_canonical-decimal : (n : ℕ) → n < 2 ^ 64 → is_canonical (decimal n) ≡ true
is_canonical-decimal n small =
    canonical-from (decimal n) (decimal_nonempty n small) (only-zero n small)
  where
    only-zero : (n : ℕ) → n < 2 ^ 64 → get_or (decimal n) 0 0 ≡ 48 → length (decimal n) ≡ 1
    only-zero zero s q = ap length (decimal_digit 0 (omega arith))
    only-zero (suc n) s q =
        let f : 48 < get_or (decimal (suc n)) 0 0 = first_decimal (suc n) (omega arith) s in
        absurd (omega arith)

-- the first word of a line is the whole line, or stands before its first space
first-word : (line word : List ℕ) (more : List (List ℕ)) → line_words line ≡ word ∷ more
    → (line ≡ word) ⊎ ((rest : List ℕ) × (line ≡ word ++ 32 ∷ rest))
first-word line word [] h = inl (sym (join_with_byte-slice_split 32 line) ∙ ap line_of h)
first-word line word (next ∷ more) h =
    inr (line_of (next ∷ more), sym (join_with_byte-slice_split 32 line) ∙ ap line_of h)

-- what a line looks like whose first word is a number
pub record StartsWithNumber (line : List ℕ) (n : ℕ) : Type 0 where
  pub digits : take (run line) line ≡ decimal n
  pub canonical : is_canonical (decimal n) ≡ true
  pub valued : value (decimal n) ≡ n
  pub ended : (run line ≡ length line) ⊎ (get_or line (run line) 0 ≡ 32)

pub begins-number : (line : List ℕ) (n : ℕ) → n < 2 ^ 64
    → BeginsWith (line_words line) (decimal n ∷ []) → StartsWithNumber line n
begins-number line n small b =
    from (first-word line (decimal n) b.more b.is)
  where
    digits : list_all is_digit (decimal n) ≡ true
    digits = digits-decimal n small

    whole : run (decimal n) ≡ length (decimal n)
    whole = rw (append-nil (decimal n)) at (run-digits (decimal n) [] digits refl)

    from : (line ≡ decimal n) ⊎ ((rest : List ℕ) × (line ≡ decimal n ++ 32 ∷ rest))
        → StartsWithNumber line n
    from (inl e) = record {
      digits = rw (e, whole) (take_all (length (decimal n)) (decimal n) (omega arith));
      canonical = is_canonical-decimal n small;
      valued = value-decimal n small;
      ended = inl (rw e whole);
    }
    from (inr p) =
        let r : run (decimal n ++ 32 ∷ p.0) ≡ length (decimal n) =
        run-digits (decimal n) (32 ∷ p.0) digits refl in
        record {
          digits = rw (p.1, r) (take-append_seam (decimal n) (32 ∷ p.0));
          canonical = is_canonical-decimal n small;
          valued = value-decimal n small;
          ended = inr (rw (p.1, r) (get_or-append_seam (decimal n) 32 p.0 0));
        }

-- digits have no byte that is no digit
digits-lack : (c : ℕ) (digits : List ℕ) → c < 48 → list_all is_digit digits ≡ true
    → lacks c digits ≡ true
digits-lack c [] small h = refl
digits-lack c (d ∷ digits) small h =
    let e : eqb d c ≡ false =
    other d (and_parts (is_digit d) (list_all is_digit digits) h).0 in
    rw e (digits-lack c digits small (and_parts (is_digit d) (list_all is_digit digits) h).1)
  where
    other : (d : ℕ) → is_digit d ≡ true → eqb d c ≡ false
    other d h = grind (arith, nat_tests)

pub lacks-decimal : (c n : ℕ) → c < 48 → n < 2 ^ 64 → lacks c (decimal n) ≡ true
lacks-decimal c n below small = digits-lack c (decimal n) below (digits-decimal n small)

-- The digits in front are counted, and `n` is what they stand for, as far as 64 bits go.
module _ (line : List ℕ) (count n limit : ℕ) (counted : count ≡ run line)
    (valued : n ≡ min (value (take count line)) (2 ^ 64 - 1)) (small : limit < 2 ^ 64 - 1)
  where
    pub refused-leading_zero : (number : ℕ) → number ≤ limit
        → is_canonical (take count line) ≡ false →
        ¬ (BeginsWith (line_words line) (decimal number ∷ []))
    refused-leading_zero number l h b =
        let s = begins-number line number (omega arith) b in
        let e : is_canonical (decimal number) ≡ false = rw (counted, s.digits) at h in
        cc (s.canonical, e)

    pub refused-large : (number : ℕ) → number ≤ limit → limit < n
        → ¬ (BeginsWith (line_words line) (decimal number ∷ []))
    refused-large number l h b =
        let s = begins-number line number (omega arith) b in
        let e : n ≡ min number (2 ^ 64 - 1) = rw (counted, s.digits, s.valued) at valued in
        omega arith

    pub refused-behind : (number : ℕ) → number ≤ limit → count ≢ length line
        → get_or line count 0 ≢ 32 → ¬ (BeginsWith (line_words line) (decimal number ∷ []))
    refused-behind number l whole space b =
        let s = begins-number line number (omega arith) b in
        elim s.ended [ inl e ↦ whole (counted ∙ e) | inr e ↦ space (rw counted e) ]

    module _ (canonical : is_canonical (take count line) ≡ true) (within : n ≤ limit) where
      digits : take count line ≡ decimal n
      digits =
          let c : is_canonical (take (run line) line) ≡ true = rw counted at canonical in
          let v : n ≡ min (value (take (run line) line)) (2 ^ 64 - 1) = rw counted at valued in
          let e : n ≡ value (take (run line) line) = omega arith in
          rw (counted, e) (canonical-decimal line c (omega arith))

      without_space : lacks 32 (take count line) ≡ true
      without_space =
          rw counted (digits-lack 32 (take (run line) line) (omega arith) (digits-run line))

      -- the number is the whole line
      pub number-alone : count ≡ length line → line_words line ≡ decimal n ∷ []
      number-alone whole =
          let t : take count line ≡ line = take_all count line (omega arith) in
          ap line_words (sym t) ∙ words-alone (take count line) without_space
          ∙ ap (λ word. word ∷ []) digits

      -- the number stands before a space
      pub number-first : count < length line → get_or line count 0 ≡ 32
          → line_words line ≡ decimal n ∷ line_words (slice_range line (count + 1) (length line))
      number-first inside space =
          let parts : line ≡ take count line ++ 32 ∷ drop (count + 1) line =
          at-place 32 line count inside (eq-eqb (get_or line count 0) 32 space) in
          ap line_words parts
          ∙ words-first (take count line) (drop (count + 1) line) without_space
          ∙ ap₂ (λ word rest. word ∷ line_words rest) digits (sym (range-drop line (count + 1)))

-- the first of some words is one number at most
pub one-number : (words : List (List ℕ)) (m n : ℕ) (behind : List (List ℕ))
    → words ≡ decimal m ∷ behind → BeginsWith words (decimal n ∷ [])
    → m < 2 ^ 64 → n < 2 ^ 64 → m ≡ n
one-number words m n behind e b k l =
    decimal_injective m n k l (head-same (decimal m) (decimal n) behind b.more (sym e ∙ b.is))
  where
    head-same : (v w : List ℕ) (vs ws : List (List ℕ)) → v ∷ vs ≡ w ∷ ws → v ≡ w
    head-same v w vs ws e = cc

-- a number doesn't begin with a minus
pub digits-no_minus : (n : ℕ) (digits word : List ℕ) → n < 2 ^ 64 → decimal n ≡ digits
    → digits ≢ 45 ∷ word
digits-no_minus n digits word small e f = no (decimal n) (digits-decimal n small) (e ∙ f)
  where
    no : (digits : List ℕ) → list_all is_digit digits ≡ true → digits ≢ 45 ∷ word
    no [] h e = cc
    no (d ∷ digits) h e =
        let k : is_digit d ≡ true = (and_parts (is_digit d) (list_all is_digit digits) h).0 in
        let l : d ≡ 45 = cc in
        let z : is_digit 45 ≡ true = rw l at k in
        let y : false ≡ true = z in
        cc
