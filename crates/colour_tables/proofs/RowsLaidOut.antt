-- Room for rows of one width one after another, and numbers that are pushed one by one.
use Rattle.std.proofs.Common.{ℕ, zero, suc, ◌+◌, ◌*◌, ◌<◌, ◌≤◌, ◌≡◌, List, [], ◌∷◌, ◌++◌}
use Rattle.std.proofs.Common.{length, get_or, replicate, ℤ, pos, refl, sym, ap, ◌∙◌, subst, arith}
use Rattle.std.proofs.Common.{inl, inr}
use Rattle.std.proofs.lemmas.Bool.{cases_lt}
use Rattle.std.proofs.lemmas.Int.{ints}
use Rattle.std.proofs.Math.Nat.{mul-le-mul_right}
use Rattle.list_laws.specs.Sets.{below}
use Rattle.list_laws.proofs.Lists.{length-below}
use Rattle.set_minima.specs.Cells.{IsNear, AreNear, IsSmall}
use Rattle.colour_tables.specs.Entries.{entry, AreSmallAll}
use Rattle.colour_tables.specs.Threes.{AreWithin}
use Rattle.colour_tables.proofs.NearNumbers.{near-zero}
use Rattle.mill_model.specs.declared.prices.TheConstants.{MAX_PRICE}

zeros : (n l : ℕ) → entry (replicate n (pos 0)) l ≡ pos 0
zeros zero l = refl
zeros (suc n) zero = refl
zeros (suc n) (suc l) = zeros n l

pub near-zeros : (m n : ℕ) (xs : List ℤ) → xs ≡ replicate n (pos 0) → AreNear m xs
near-zeros m n xs e l =
    subst (IsNear m) (sym (ap (λ (ys : List ℤ). entry ys l) e ∙ zeros n l)) (near-zero m)

at-left : (xs ys : List ℕ) (i : ℕ) → i < length xs → get_or (xs ++ ys) i 0 ≡ get_or xs i 0
at-left [] ys i h = absurd (omega arith)
at-left (x ∷ xs) ys zero h = refl
at-left (x ∷ xs) ys (suc i) h = at-left xs ys i (omega arith)

at-last : (xs : List ℕ) (y i : ℕ) → i ≡ length xs → get_or (xs ++ y ∷ []) i 0 ≡ y
at-last [] y i h = rw h refl
at-last (x ∷ xs) y zero h = absurd (omega arith)
at-last (x ∷ xs) y (suc i) h = at-last xs y i (omega arith)

pub below-at : (m i : ℕ) → i < m → get_or (below m) i 0 ≡ i
below-at zero i h = absurd (omega arith)
below-at (suc m) i h =
    let n : length (below m) ≡ m = length-below m in
    elim (cases_lt i m) [
      | inl b ↦ at-left (below m) (m ∷ []) i (omega arith) ∙ below-at m i b
      | inr b ↦ (let e : i ≡ m = omega arith in at-last (below m) m i (omega arith) ∙ sym e)
    ]

-- the rows of the first colours
pub within-below : (m w size : ℕ) → size ≡ m * w → AreWithin w size (below m)
within-below m w size e i h =
    let n : length (below m) ≡ m = length-below m in
    let b : i < m = omega arith in
    let q : suc i * w ≤ m * w = mul-le-mul_right w b in
    let p : suc i * w ≡ i * w + w = omega arith in
    subst (λ z. z * w + w ≤ size) (sym (below-at m i b)) (omega arith)

-- one number more
entry-left : (xs ys : List ℤ) (k : ℕ) → k < length xs → entry (xs ++ ys) k ≡ entry xs k
entry-left [] ys k h = absurd (omega arith)
entry-left (x ∷ xs) ys zero h = refl
entry-left (x ∷ xs) ys (suc k) h = entry-left xs ys k (omega arith)

entry-last : (xs : List ℤ) (v : ℤ) → entry (xs ++ v ∷ []) (length xs) ≡ v
entry-last [] v = refl
entry-last (x ∷ xs) v = entry-last xs v

pub each-push : (P : ℕ → ℤ → Type 0) (xs now : List ℤ) (v : ℤ) (n : ℕ) → now ≡ xs ++ v ∷ [] →
    length xs ≡ n → ((k : ℕ) → k < n → P k (entry xs k)) → P n v → (k : ℕ) → k < n + 1 →
    P k (entry now k)
each-push P xs now v n e l old new k h =
    subst (λ (ys : List ℤ). P k (entry ys k)) (sym e) (elim (cases_lt k n) [
      | inl b ↦ subst (P k) (sym (entry-left xs (v ∷ []) k (omega arith))) (old k b)
      | inr b ↦ (let q : length xs ≡ k = omega arith in
          let r : n ≡ k = omega arith in
          subst (λ m. P k (entry (xs ++ v ∷ []) m)) q
          (subst (P k) (sym (entry-last xs v)) (subst (λ m. P m v) r new)))
    ])

pub all-small : (xs : List ℤ) → ((k : ℕ) → k < length xs → IsSmall MAX_PRICE (entry xs k)) →
    AreSmallAll xs
all-small xs h l = elim (cases_lt l (length xs)) [
  | inl b ↦ h l b
  | inr b ↦ subst (IsSmall MAX_PRICE) (sym (past xs l b)) (
    omega (arith, ints),
    omega (
      arith,
      ints,
    ),
  )
]
  where
    past : (xs : List ℤ) (l : ℕ) → length xs ≤ l → entry xs l ≡ pos 0
    past [] l h = refl
    past (x ∷ xs) zero h = absurd (omega arith)
    past (x ∷ xs) (suc l) h = past xs l (omega arith)
