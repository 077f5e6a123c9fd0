-- Loops over loads that write one number of a list at each.
use Rattle.std.proofs.Common.{ℕ, ◌+◌, ◌<◌, ◌≡◌, ◌≢◌, List, length, set, ℤ, pos}
use Rattle.std.proofs.Common.{sym, subst, arith, inl, inr}
use Rattle.std.proofs.lemmas.List.{get_or-set_same, get_or-set_other}
use Rattle.std.proofs.lemmas.Bool.{cases_lt}
use Rattle.colour_tables.specs.Entries.{entry}
use Rattle.colour_tables.specs.Threes.{column}
use Rattle.colour_tables.specs.declared.tops.Three.{Three}

pub set-same : (to : List ℤ) (l : ℕ) (v : ℤ) → l < length to → entry (set to l v) l ≡ v
set-same to l v h = get_or-set_same to l v (pos 0) h

pub set-other : (to : List ℤ) (l k : ℕ) (v : ℤ) → k ≢ l → entry (set to l v) k ≡ entry to k
set-other to l k v n = get_or-set_other to l k v (pos 0) n

-- each load below is done
pub below-set : (P : ℕ → ℤ → Type 0) (to : List ℤ) (l : ℕ) (v : ℤ) → l < length to → P l v →
    ((k : ℕ) → k < l → P k (entry to k)) → (k : ℕ) → k < l + 1 → P k (entry (set to l v) k)
below-set P to l v h p done k b = elim (cases_lt k l) [
  | inl a ↦ subst (P k) (sym (set-other to l k v (λ q. absurd (omega arith)))) (done k a)
  | inr a ↦ (let e : l ≡ k = omega arith in
      subst (λ z. P z (entry (set to l v) z)) e (subst (P l) (sym (set-same to l v h)) p))
]

-- the load 0 is written last
pub first-set : (P : ℕ → ℤ → Type 0) (to : List ℤ) (v : ℤ) (n : ℕ) →
    ((k : ℕ) → k < n → P k (entry to k)) → (k : ℕ) → 0 < k → k < n → P k (entry (set to 0 v) k)
first-set P to v n done k a b =
    subst (P k) (sym (set-other to 0 k v (λ q. absurd (omega arith)))) (done k b)

pub column-is : (a b c a' b' c' : ℤ) → a ≡ a' → b ≡ b' → c ≡ c' →
    ◌≡◌ {A = Three} (record { best = a; second = b; third = c })
    (record { best = a'; second = b'; third = c' })
column-is a b c a' b' c' e f g = cc

-- the same for three lists at once
pub column-same : (x y z : List ℤ) (l : ℕ) (a b c : ℤ) → l < length x → l < length y →
    l < length z → column (set x l a) (set y l b) (set z l c) l
    ≡ record { best = a; second = b; third = c }
column-same x y z l a b c h k m =
    column-is _ _ _ _ _ _ (set-same x l a h) (set-same y l b k) (set-same z l c m)

pub column-other : (x y z : List ℤ) (l k : ℕ) (a b c : ℤ) → k ≢ l →
    column (set x l a) (set y l b) (set z l c) k ≡ column x y z k
column-other x y z l k a b c n =
    column-is _ _ _ _ _ _ (set-other x l k a n) (set-other y l k b n) (set-other z l k c n)
