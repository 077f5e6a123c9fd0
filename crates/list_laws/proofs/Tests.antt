-- Truth values, and the least number of which something holds.
use Rattle.std.proofs.Common.{ℕ, suc, ◌<◌, ◌≡◌, ◌⊎◌, eqb, ltb, Bool, true, false, ◌&&◌, ◌||◌, refl}
use Rattle.std.proofs.Common.{sym, arith, inl, inr, eqb-true, ltb-true, eq-or-lt_of_le}
use Rattle.std.proofs.Common.{IsTrue, ◌↔◌}
use Rattle.std.proofs.lemmas.Bool.{cases_lt}

pub either : (b : Bool) → (b ≡ true) ⊎ (b ≡ false)
either true = inl refl
either false = inr refl

pub or-cases : (a b : Bool) → (a || b) ≡ true → (a ≡ true) ⊎ (b ≡ true)
or-cases true b h = inl refl
or-cases false b h = inr h

pub or-left : (a b : Bool) → a ≡ true → (a || b) ≡ true
or-left a b h = rw h

pub or-right : (a b : Bool) → b ≡ true → (a || b) ≡ true
or-right true b h = refl
or-right false b h = h

pub and-left : (a b : Bool) → (a && b) ≡ true → a ≡ true
and-left true b h = refl
and-left false b h = h

pub and-right : (a b : Bool) → (a && b) ≡ true → b ≡ true
and-right true b h = h
and-right false b h = grind arith

pub clash : (b : Bool) → b ≡ true → b ≡ false → ⊥
clash b t f = cc

-- equal truth values from both ways
pub equal-tests : (a b : Bool) → (a ≡ true → b ≡ true) → (b ≡ true → a ≡ true) → a ≡ b
equal-tests true b f g = sym (f refl)
equal-tests false true f g = g refl
equal-tests false false f g = refl

-- an answer that is told by a test
pub same-answer : (answer test : Bool) → IsTrue answer ↔ (test ≡ true) → answer ≡ test
same-answer true test told = sym (told.0 refl)
same-answer false true told = told.1 refl
same-answer false false told = refl

pub or-swap : (a b c : Bool) → (a || (b || c)) ≡ (b || (a || c))
or-swap true true c = refl
or-swap true false c = refl
or-swap false b c = refl

-- how the heads of two lists compare, of which one comes before the other
pub head-cases : (g h : ℕ) (b : Bool) → (ltb g h || (eqb g h && b)) ≡ true →
    (g < h) ⊎ ((g ≡ h) × (b ≡ true))
head-cases g h b e = elim (either (ltb g h)) [
  | inl l ↦ inl (ltb-true g h l)
  | inr l ↦ (let k : (eqb g h && b) ≡ true = rw l at e in
      inr (eqb-true g h (and-left (eqb g h) b k), and-right (eqb g h) b k))
]

pub last-or-below : (s n : ℕ) → s < suc n → (s ≡ n) ⊎ (s < n)
last-or-below s n h = eq-or-lt_of_le {n = s} {m = n} (omega arith)

-- two lowest numbers of which something holds are one
pub lowest-once : (Holds : ℕ → Type 0) (s t : ℕ) → Holds s → ((u : ℕ) → u < s → Holds u → ⊥) →
    Holds t → ((u : ℕ) → u < t → Holds u → ⊥) → s ≡ t
lowest-once Holds s t at-s below-s at-t below-t = elim (cases_lt s t) [
  | inl l ↦ absurd (below-t s l at-s)
  | inr l ↦ elim (cases_lt t s) [
    | inl k ↦ absurd (below-s t k at-t)
    | inr k ↦ omega arith
  ]
]
