-- What digits stand for, and the digits in front of some bytes.
use Rattle.std.specs.List.{list_all, prefix_len, take_while}
use Rattle.std.proofs.Common.{ℕ, ◌+◌, ◌-◌, ◌*◌, ◌^◌, ◌<◌, ◌≡◌, Bool, true, false, not, List, []}
use Rattle.std.proofs.Common.{◌∷◌, ◌++◌, length, get_or, fold, refl, sym, ap, ◌∙◌, arith, rules}
use Rattle.std.proofs.Common.{inl, inr}
use Rattle.std.specs.Fmt.{decimal}
use Rattle.std.proofs.lemmas.Fmt.{digits_decimal, digits_value-decimal, decimal-digits_value}
use Rattle.std.proofs.lemmas.Bool.{cases_Bool, and_parts}
use Rattle.std.proofs.lemmas.List.Sums.{take_while-cons}
use Rattle.std.proofs.lemmas.Str.Parse.{IsNumeralModel, numerals_by_fold}
use Rattle.line_text.specs.Numbers.{is_digit, value}

-- `value` is what digits stand for, in std's words
own : IsNumeralModel (λ digits. list_all is_digit digits ≡ true) value
own =
    numerals_by_fold _ (search rules) (λ n digits. fold (λ n b. 10 * n + (b - 48)) n digits)
    (search rules)

-- so `decimal` writes digits, of this value
pub digits-decimal : (n : ℕ) → n < 2 ^ 64 → list_all is_digit (decimal n) ≡ true
digits-decimal n small = digits_decimal own n small

pub value-decimal : (n : ℕ) → n < 2 ^ 64 → value (decimal n) ≡ n
value-decimal n small = digits_value-decimal own n small

-- and digits with no 0 in front are what it writes of their value
pub decimal-value : (digits : List ℕ) → list_all is_digit digits ≡ true → 0 < length digits
    → (get_or digits 0 0 ≡ 48 → length digits ≡ 1) → value digits < 2 ^ 64
    → decimal (value digits) ≡ digits
decimal-value digits are some zero small = decimal-digits_value own digits are some zero small

-- how many digits stand in front
abbrev pub run : List ℕ → ℕ
run bytes = prefix_len is_digit bytes

-- they are digits
pub digits-run : (bytes : List ℕ) → list_all is_digit (take_while is_digit bytes) ≡ true
digits-run [] = refl
digits-run (b ∷ bytes) =
    ap (list_all is_digit) (take_while-cons is_digit b bytes)
    ∙ elim (cases_Bool (is_digit b)) [
      | inl d ↦ rw (d, d) (digits-run bytes)
      | inr d ↦ rw d refl
    ]

-- whether no digit stands in front
abbrev pub ends : List ℕ → Bool
ends [] = true
ends (b ∷ bytes) = not (is_digit b)

-- digits before a rest with none in front are those in front
pub run-digits : (digits rest : List ℕ) → list_all is_digit digits ≡ true → ends rest ≡ true
    → run (digits ++ rest) ≡ length digits
run-digits [] [] h e = refl
run-digits [] (b ∷ rest) h e = let k : is_digit b ≡ false = not-true (is_digit b) e in rw k refl
  where
    not-true : (x : Bool) → not x ≡ true → x ≡ false
    not-true true y = sym y
    not-true false y = refl
run-digits (d ∷ digits) rest h e =
    let p = and_parts (is_digit d) (list_all is_digit digits) h in
    rw p.0 (omega (arith, run-digits digits rest p.1 e))
