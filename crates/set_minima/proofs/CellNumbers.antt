-- Numbers of the tables: which of them stand for a set, and how large they get.
use Rattle.std.proofs.Common.{ℕ, ◌+◌, ◌≤◌, ◌≡◌, ◌⊎◌, true, false, ℤ, pos, neg_ℤ, ◌-ℤ◌, ◌+ℤ◌, ◌≤ℤ◌}
use Rattle.std.proofs.Common.{◌<ℤ◌, int_lt, Some, None, ap, ◌∙◌, arith, inl, inr, negsuc, SFits}
use Rattle.std.proofs.Common.{w64, to_z, of_z, to_z-of_z}
use Rattle.std.proofs.lemmas.Int.{ints}
use Rattle.std.specs.Int.{int_max}
use Rattle.list_laws.proofs.Tests.{either}
use Rattle.set_minima.specs.Packs.{better, with_price}
use Rattle.set_minima.specs.Cells.{nothing, found, IsNear, IsSmall}
use Rattle.set_minima.proofs.Tops.{max-is}

abbrev floor : ℤ
floor = neg_ℤ (pos 2305843009213693952)

low : (x : ℤ) → int_lt x floor ≡ true → found x ≡ None
low x h = rw h

high : (x : ℤ) → int_lt x floor ≡ false → found x ≡ Some x
high x h = rw h

is-low : (x : ℤ) → x <ℤ floor → int_lt x floor ≡ true
is-low x h = grind (arith, ints)

is-high : (x : ℤ) → floor ≤ℤ x → int_lt x floor ≡ false
is-high x h = grind (arith, ints)

from-low : (x : ℤ) → int_lt x floor ≡ true → x <ℤ floor
from-low x h = grind (arith, ints)

from-high : (x : ℤ) → int_lt x floor ≡ false → floor ≤ℤ x
from-high x h = grind (arith, ints)

max-first : (x y : ℤ) → y ≤ℤ x → int_max x y ≡ x
max-first x y h = grind (arith, ints)

max-second : (x y : ℤ) → x ≤ℤ y → int_max x y ≡ y
max-second x y h = grind (arith, ints)

low-below : (x y : ℤ) → x <ℤ floor → floor ≤ℤ y → x ≤ℤ y
low-below x y h k = omega (arith, ints)

max-low : (x y : ℤ) → x <ℤ floor → y <ℤ floor → int_max x y <ℤ floor
max-low x y h k = grind (arith, ints)

max-high : (x y : ℤ) → floor ≤ℤ x → floor ≤ℤ int_max x y
max-high x y h = grind (arith, ints)

-- the greater number stands for the better of two
pub found-max : (x y : ℤ) → found (int_max x y) ≡ better (found x) (found y)
found-max x y = elim (either (int_lt x floor)) [
  | inl a ↦ elim (either (int_lt y floor)) [
    | inl b ↦ low (int_max x y) (is-low (int_max x y) (max-low x y (from-low x a) (from-low y b)))
        ∙ rw (a, b)
    | inr b ↦ ap found (max-second x y (low-below x y (from-low x a) (from-high y b))) ∙ rw a
  ]
  | inr a ↦ elim (either (int_lt y floor)) [
    | inl b ↦ ap found (max-first x y (low-below y x (from-low y b) (from-high x a))) ∙ rw (a, b)
    | inr b ↦ high (int_max x y) (is-high (int_max x y) (max-high x y (from-high x a)))
        ∙ rw (a, b)
  ]
]

-- a number with a price more stands for what it stood for, with the price
pub found-plus : (n p : ℕ) (x y : ℤ) → n + p ≤ 1152921504606846976 → IsNear n x → IsSmall p y →
    found (x +ℤ y) ≡ with_price y (found x)
found-plus n p x y h (inl k) s =
    let a : neg_ℤ (pos n) ≤ℤ x = k.0 in
    let b : neg_ℤ (pos p) ≤ℤ y = s.0 in
    let c : int_lt x floor ≡ false = is-high x (omega (arith, ints)) in
    let d : int_lt (x +ℤ y) floor ≡ false = is-high (x +ℤ y) (omega (arith, ints)) in
    rw (c, d)
found-plus n p x y h (inr k) s =
    let a : x ≤ℤ (nothing +ℤ pos n) = k.1 in
    let b : y ≤ℤ pos p = s.1 in
    let c : int_lt x floor ≡ true = is-low x (omega (arith, ints)) in
    let d : int_lt (x +ℤ y) floor ≡ true = is-low (x +ℤ y) (omega (arith, ints)) in
    rw (c, d)

pub near-wider : (n m : ℕ) (x : ℤ) → n ≤ m → IsNear n x → IsNear m x
near-wider n m x h (inl k) = inl (omega (arith, ints, k.0, k.1), omega (arith, ints, k.0, k.1))
near-wider n m x h (inr k) = inr (omega (arith, ints, k.0, k.1), omega (arith, ints, k.0, k.1))

pub near-plus : (n p : ℕ) (x y : ℤ) → IsNear n x → IsSmall p y → IsNear (n + p) (x +ℤ y)
near-plus n p x y (inl k) s =
    inl (omega (arith, ints, k.0, k.1, s.0, s.1), omega (arith, ints, k.0, k.1, s.0, s.1))
near-plus n p x y (inr k) s =
    inr (omega (arith, ints, k.0, k.1, s.0, s.1), omega (arith, ints, k.0, k.1, s.0, s.1))

pub near-max : (n : ℕ) (x y : ℤ) → IsNear n x → IsNear n y → IsNear n (int_max x y)
near-max n x y h k = elim (max-is x y) [ inl e ↦ rw e h | inr e ↦ rw e k ]

-- a near number and a price more have 64 bits
pub near-fits : (x : ℤ) → IsNear 1152921504606846976 x →
    (neg_ℤ (pos 5764607523034234880) ≤ℤ x) × (x ≤ℤ pos 1152921504606846976)
near-fits x (inl k) = (omega (arith, ints, k.0, k.1), omega (arith, ints, k.0, k.1))
near-fits x (inr k) = (omega (arith, ints, k.0, k.1), omega (arith, ints, k.0, k.1))

pub near-small : (n : ℕ) (x : ℤ) → IsSmall n x → IsNear n x
near-small n x h = inl h

-- numbers that are not large have 64 bits
pub fits-64 : (z : ℤ) → neg_ℤ (pos 9000000000000000000) ≤ℤ z → z ≤ℤ pos 9000000000000000000 →
    SFits w64 z
fits-64 (pos n) a b = record { sfits = omega (arith, ints) }
fits-64 (negsuc n) a b = record { sfits = omega (arith, ints) }

-- a near number with the other sign, in 64 bits
pub turned : (x : ℤ) → IsNear 576460752303423488 x →
    to_z w64 (of_z w64 (pos 0 -ℤ to_z w64 (of_z w64 x))) ≡ neg_ℤ x
turned x h =
    let n = near-fits x (near-wider 576460752303423488 1152921504606846976 x (omega arith) h) in
    let f : SFits w64 x =
    fits-64 x (omega (arith, ints, n.0, n.1)) (omega (arith, ints, n.0, n.1)) in
    let g : SFits w64 (pos 0 -ℤ x) =
    fits-64 (pos 0 -ℤ x) (omega (arith, ints, n.0, n.1)) (omega (arith, ints, n.0, n.1)) in
    simp to_z-of_z (omega (arith, ints))
