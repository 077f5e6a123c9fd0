-- The numbers that are picked from near ones are near.
use Rattle.std.proofs.Common.{ℕ, ◌<◌, ◌≤◌, ◌≡◌, ◌≢◌, ◌⊎◌, true, false, List, [], ◌∷◌, length, ℤ}
use Rattle.std.proofs.Common.{pos, ◌≤ℤ◌, ◌<ℤ◌, int_lt}
use Rattle.std.proofs.Common.{sym, subst, arith, inl, inr, zero, suc, take}
use Rattle.std.proofs.lemmas.Int.{ints}
use Rattle.std.proofs.lemmas.Bool.{cases_lt}
use Rattle.std.proofs.lemmas.List.{get_or_past, get_or-take}
use Rattle.std.specs.Int.{int_max, int_min}
use Rattle.list_laws.proofs.Tests.{either}
use Rattle.set_minima.specs.Cells.{nothing, IsNear, AreNear}
use Rattle.colour_tables.specs.Entries.{entry}
use Rattle.colour_tables.specs.Threes.{three, IsButOne, IsButTwo}
use Rattle.colour_tables.specs.declared.tops.Three.{Three}
use Rattle.set_minima.proofs.CellNumbers.{near-max}

min-is : (x y : ℤ) → (int_min x y ≡ x) ⊎ (int_min x y ≡ y)
min-is x y = grind (arith, ints)

pub near-min : (n : ℕ) (x y : ℤ) → IsNear n x → IsNear n y → IsNear n (int_min x y)
near-min n x y h k = elim (min-is x y) [ inl e ↦ rw e h | inr e ↦ rw e k ]

pub near-zero : (n : ℕ) → IsNear n (pos 0)
near-zero n = inl (omega (arith, ints), omega (arith, ints))

near-nothing : (n : ℕ) → IsNear n nothing
near-nothing n = inr (omega (arith, ints), omega (arith, ints))

-- the three greatest of near numbers
pub record AreThreeNear (n : ℕ) (t : Three) : Type 0 where
  pub best : IsNear n t.best
  pub second : IsNear n t.second
  pub third : IsNear n t.third

pub three-near : (n : ℕ) (f : ℕ → ℤ) (cs : List ℕ) → ((c : ℕ) → IsNear n (f c)) →
    AreThreeNear n (three f cs)
three-near n f [] h =
    record { best = near-nothing n; second = near-nothing n; third = near-nothing n }
three-near n f (c ∷ cs) h =
    let t = three-near n f cs h in
    record {
      best = near-max n _ _ t.best (h c);
      second = near-max n _ _ t.second (near-min n _ _ t.best (h c));
      third = near-max n _ _ t.third (near-min n _ _ t.second (near-min n _ _ t.best (h c)));
    }

equal-or : (x b : ℤ) → (x ≡ b) ⊎ (x ≢ b)
equal-or x b = elim (either (int_lt x b)) [
  | inl a ↦ inr (λ q. less x b a q)
  | inr a ↦ elim (either (int_lt b x)) [
    | inl d ↦ inr (λ q. less b x d (sym q))
    | inr d ↦ inl (same x b a d)
  ]
]
  where
    less : (x b : ℤ) → int_lt x b ≡ true → x ≡ b → ⊥
    less x b h q = absurd (grind (arith, ints))

    same : (x b : ℤ) → int_lt x b ≡ false → int_lt b x ≡ false → x ≡ b
    same x b h k = grind (arith, ints)

pub one-near : (n : ℕ) (x b s v : ℤ) → IsNear n b → IsNear n s → IsButOne x b s v → IsNear n v
one-near n x b s v h k e = elim (equal-or x b) [
  | inl q ↦ subst (IsNear n) (sym (e.equal q)) k
  | inr q ↦ subst (IsNear n) (sym (e.other q)) h
]

pub two-near : (n : ℕ) (x y b s t v : ℤ) → IsNear n b → IsNear n s → IsNear n t →
    IsButTwo x y b s t v → IsNear n v
two-near n x y b s t v h k m e = elim (either (int_lt (int_max x y) b)) [
  | inl q ↦ subst (IsNear n) (sym (e.upper (below _ _ q))) h
  | inr q ↦ elim (either (int_lt (int_min x y) s)) [
    | inl r ↦ subst (IsNear n) (sym (e.middle (above _ _ q) (below _ _ r))) k
    | inr r ↦ subst (IsNear n) (sym (e.lower (above _ _ q) (above _ _ r))) m
  ]
]
  where
    below : (x y : ℤ) → int_lt x y ≡ true → x <ℤ y
    below x y h = grind (arith, ints)

    above : (x y : ℤ) → int_lt x y ≡ false → y ≤ℤ x
    above x y h = grind (arith, ints)

-- a list of which each number is near, at load 0 and above
pub all-near : (n : ℕ) (to : List ℤ) → entry to 0 ≡ pos 0 →
    ((l : ℕ) → 0 < l → l < length to → IsNear n (entry to l)) → AreNear n to
all-near n to first h zero = subst (IsNear n) (sym first) (near-zero n)
all-near n to first h (suc l) = elim (cases_lt (suc l) (length to)) [
  | inl b ↦ h (suc l) (omega arith) b
  | inr b ↦ subst (IsNear n) (sym (get_or_past to (suc l) (pos 0) b)) (near-zero n)
]

pub front-near : (n k : ℕ) (xs : List ℤ) → AreNear n xs → (l : ℕ) → IsNear n (entry (take k xs) l)
front-near n k xs h l = elim (cases_lt l k) [
  | inl b ↦ subst (IsNear n) (sym (get_or-take k xs l (pos 0) b)) (h l)
  | inr b ↦ subst (IsNear n) (sym (get_or_past (take k xs) l (pos 0)
      (let e : length (take k xs) ≤ k = length-take-le k xs in omega arith))) (near-zero n)
]
  where
    length-take-le : (k : ℕ) (xs : List ℤ) → length (take k xs) ≤ k
    length-take-le zero xs = omega arith
    length-take-le (suc k) [] = omega arith
    length-take-le (suc k) (x ∷ xs) =
        let ih : length (take k xs) ≤ k = length-take-le k xs in omega arith
