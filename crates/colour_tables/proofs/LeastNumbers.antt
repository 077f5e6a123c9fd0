-- The least charge less value over a table: what its number stands for, and how large it gets.
use Rattle.std.proofs.Common.{ℕ, ◌+◌, ◌≤◌, ◌≡◌, true, false, ℤ, neg_ℤ, ◌-ℤ◌, ◌+ℤ◌, ◌≤ℤ◌, ◌<ℤ◌}
use Rattle.std.proofs.Common.{int_lt, int_le, ap, ◌∙◌, arith, inl, inr, SFits, w64}
use Rattle.std.proofs.lemmas.Int.{ints}
use Rattle.std.specs.Int.{int_max, int_min}
use Rattle.set_minima.specs.Packs.{better, with_price}
use Rattle.set_minima.specs.Cells.{found, IsNear, IsSmall}
use Rattle.set_minima.proofs.CellNumbers.{found-max, found-plus, fits-64}
use Rattle.mill_model.specs.declared.prices.TheConstants.{MAX_PRICE}
use Rattle.colour_tables.specs.Entries.{table_limit}

-- what tests say
pub le-true : (a b : ℤ) → int_le a b ≡ true → a ≤ℤ b
le-true a b h = grind (arith, ints)

pub le-false : (a b : ℤ) → int_le a b ≡ false → b <ℤ a
le-false a b h = grind (arith, ints)

pub lt-true : (a b : ℤ) → int_lt a b ≡ true → a <ℤ b
lt-true a b h = grind (arith, ints)

-- the lesser of a number and of what a charge leaves, with the other sign
turned-min : (a c t : ℤ) → neg_ℤ (int_min a (c -ℤ t)) ≡ int_max (neg_ℤ a) (t +ℤ neg_ℤ c)
turned-min a c t = grind (arith, ints)

small-turned : (n : ℕ) (c : ℤ) → IsSmall n c → IsSmall n (neg_ℤ c)
small-turned n c h = (omega (arith, ints, h.0, h.1), omega (arith, ints, h.0, h.1))

pub found-least : (n p : ℕ) (a c t : ℤ) → n + p ≤ 1152921504606846976 → IsNear n t → IsSmall p c →
    found (neg_ℤ (int_min a (c -ℤ t))) ≡ better (found (neg_ℤ a)) (with_price (neg_ℤ c) (found t))
found-least n p a c t h k s =
    ap found (turned-min a c t) ∙ found-max (neg_ℤ a) (t +ℤ neg_ℤ c)
    ∙ ap (better (found (neg_ℤ a))) (found-plus n p t (neg_ℤ c) h k (small-turned p c s))

-- a charge less a near number has 64 bits
pub less-fits : (c t : ℤ) → IsSmall MAX_PRICE c → IsNear table_limit t →
    SFits w64 (c -ℤ t)
less-fits c t s (inl k) =
    fits-64 (c -ℤ t) (omega (arith, ints, k.0, k.1, s.0, s.1)) (omega (
      arith,
      ints,
      k.0,
      k.1,
      s.0,
      s.1,
    ))
less-fits c t s (inr k) =
    fits-64 (c -ℤ t) (omega (arith, ints, k.0, k.1, s.0, s.1)) (omega (
      arith,
      ints,
      k.0,
      k.1,
      s.0,
      s.1,
    ))
