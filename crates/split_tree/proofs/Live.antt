-- Whether some order from a rank on passes a test, and the colours of those orders.
use Rattle.std.proofs.Common.{ℕ, zero, suc, ◌+◌, ◌<◌, ◌≤◌, ◌≡◌, Bool, true, false, List, [], ◌∷◌}
use Rattle.std.proofs.Common.{drop, length, Some, None, refl, sym, ap, ◌∙◌, arith, map, ◌++◌}
use Rattle.std.proofs.Common.{append_assoc}
use Rattle.std.specs.List.{list_any, slice_get}
use Rattle.list_laws.proofs.Tests.{or-left, or-right}

pub any-from-rank : {X : Type 0} (p : X → Bool) (k : ℕ) (xs : List X) (r : ℕ) (x : X) → k ≤ r →
    slice_get xs r ≡ Some x → p x ≡ true → list_any p (drop k xs) ≡ true
any-from-rank p zero [] r x l e t = absurd (none-some e)
  where
    none-some : None ≡ Some x → ⊥
    none-some e = cc
any-from-rank p (suc k) [] r x l e t = absurd (none-some e)
  where
    none-some : None ≡ Some x → ⊥
    none-some e = cc
any-from-rank p zero (y ∷ xs) zero x l e t = or-left (p y) (list_any p xs) (ap p (same e) ∙ t)
  where
    same : Some y ≡ Some x → y ≡ x
    same e = cc
any-from-rank p zero (y ∷ xs) (suc r) x l e t =
    or-right (p y) (list_any p xs) (any-from-rank p zero xs r x (omega arith) e t)
any-from-rank p (suc k) (y ∷ xs) zero x l e t = absurd (omega arith)
any-from-rank p (suc k) (y ∷ xs) (suc r) x l e t = any-from-rank p k xs r x (omega arith) e t

pub none-from-rank : {X : Type 0} (p : X → Bool) (k : ℕ) (xs : List X) →
    ((r : ℕ) (x : X) → k ≤ r → slice_get xs r ≡ Some x → p x ≡ false) →
    list_any p (drop k xs) ≡ false
none-from-rank p zero [] h = refl
none-from-rank p (suc k) [] h = refl
none-from-rank p zero (y ∷ xs) h =
    rw (h 0 y (omega arith) refl)
    (none-from-rank p zero xs (λ r x l e. h (suc r) x (omega arith) e))
none-from-rank p (suc k) (y ∷ xs) h =
    none-from-rank p k xs (λ r x l e. h (suc r) x (omega arith) e)

-- a place where a list has something
pub got-below : {X : Type 0} (xs : List X) (r : ℕ) (x : X) → slice_get xs r ≡ Some x →
    r < length xs
got-below [] r x e = absurd (none-some e)
  where
    none-some : None ≡ Some x → ⊥
    none-some e = cc
got-below (y ∷ xs) zero x e = omega arith
got-below (y ∷ xs) (suc r) x e = let ih : r < length xs = got-below xs r x e in omega arith

-- what stands from a rank on begins with what stands there
pub drop-at : {X : Type 0} (xs : List X) (r : ℕ) (x : X) → slice_get xs r ≡ Some x →
    drop r xs ≡ x ∷ drop (suc r) xs
drop-at [] r x e = absurd (none-some e)
  where
    none-some : None ≡ Some x → ⊥
    none-some e = cc
drop-at (y ∷ xs) zero x e = ap (λ z. z ∷ xs) (same e)
  where
    same : Some y ≡ Some x → y ≡ x
    same e = cc
drop-at (y ∷ xs) (suc r) x e = drop-at xs r x e

pub drop-end : {X : Type 0} (xs : List X) (r : ℕ) → length xs ≤ r → drop r xs ≡ []
drop-end [] zero l = refl
drop-end [] (suc r) l = refl
drop-end (y ∷ xs) zero l = absurd (omega arith)
drop-end (y ∷ xs) (suc r) l = drop-end xs r (omega arith)

-- one more of the values from a rank on
pub values-more : {X : Type 0} (f : X → ℕ) (xs : List X) (r : ℕ) (x : X) (some all : List ℕ) →
    slice_get xs r ≡ Some x → some ++ map f (drop r xs) ≡ all →
    (some ++ f x ∷ []) ++ map f (drop (r + 1) xs) ≡ all
values-more f xs r x some all e is =
    let next : r + 1 ≡ suc r = omega arith in
    rw next (append_assoc some (f x ∷ []) (map f (drop (suc r) xs))
    ∙ sym (ap (λ l. some ++ map f l) (drop-at xs r x e)) ∙ is)
