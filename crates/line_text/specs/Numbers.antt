-- Numbers as words.
use Rattle.std.specs.Prelude.{ℕ, ◌+◌, ◌-◌, ◌*◌, Bool, true, false, not, ◌&&◌, List, [], ◌∷◌, map}
use Rattle.std.specs.Prelude.{fold, eqb, nat_le, ℤ, pos, ◌-ℤ◌, ◌≤ℤ◌}
use Rattle.std.specs.Fmt.{decimal, signed_decimal}

-- the word of a thing that is counted from 0: its number counted from 1
abbrev pub ordinal : ℕ → List ℕ
ordinal thing = decimal (thing + 1)

abbrev pub ordinals : List ℕ → List (List ℕ)
ordinals things = map ordinal things

abbrev pub signed_numbers : List ℤ → List (List ℕ)
signed_numbers numbers = map signed_decimal numbers

-- a number that is at most a limit, but for its sign
abbrev pub IsWithin : ℕ → ℤ → Type 0
IsWithin limit number = ((pos 0 -ℤ pos limit) ≤ℤ number) × (number ≤ℤ pos limit)

-- whether a byte is a digit
abbrev pub is_digit : ℕ → Bool
is_digit byte = nat_le 48 byte && nat_le byte 57

-- what digits stand for
abbrev pub value : List ℕ → ℕ
value digits = fold (λ n digit. 10 * n + (digit - 48)) 0 digits

-- whether digits are 0, or have no 0 in front
abbrev pub is_canonical : List ℕ → Bool
is_canonical [] = false
is_canonical (d ∷ []) = true
is_canonical (d ∷ e ∷ digits) = not (eqb d 48)
