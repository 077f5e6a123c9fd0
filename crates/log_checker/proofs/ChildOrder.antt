-- How the child of a path compares with another path.
use Rattle.std.proofs.Common.{ℕ, zero, suc, ◌≤◌, ◌≡◌, ◌⊎◌, List, [], ◌∷◌, ◌++◌, length, take, drop}
use Rattle.std.proofs.Common.{ltb, refl, arith, inl, inr}
use Rattle.std.proofs.lemmas.Bool.{cases_Bool}
use Rattle.std.specs.Ordering.{ordering_then}
use Rattle.refute_log.specs.Rising.{path_order}

-- a path that goes on compares by its front first, and then by the rest, where the other path is
-- split at the front's length or is at its end
pub order-by-front : (p r q : List ℕ) (n : ℕ) → n ≤ length p → n ≤ length q →
    (n ≡ length p) ⊎ (n ≡ length q) →
    path_order (p ++ r) q ≡ ordering_then (path_order p (take n q)) (path_order r (drop n q))
order-by-front [] r q zero a b h = refl
order-by-front [] r q (suc n) a b h = absurd (omega arith)
order-by-front (x ∷ p) r [] zero a b h = refl
order-by-front (x ∷ p) r [] (suc n) a b h = absurd (omega arith)
order-by-front (x ∷ p) r (y ∷ q) zero a b (inl e) = absurd (omega arith)
order-by-front (x ∷ p) r (y ∷ q) zero a b (inr e) = absurd (omega arith)
order-by-front (x ∷ p) r (y ∷ q) (suc n) a b h =
    let ih : path_order (p ++ r) q
    ≡ ordering_then (path_order p (take n q)) (path_order r (drop n q)) =
    order-by-front p r q n (omega arith) (omega arith) (less h) in
    elim (cases_Bool (ltb x y)) [
      | inl l ↦ rw l refl
      | inr l ↦ elim (cases_Bool (ltb y x)) [
        | inl k ↦ rw (l, k) refl
        | inr k ↦ rw (l, k) ih
      ]
    ]
  where
    less : (suc n ≡ suc (length p)) ⊎ (suc n ≡ suc (length q)) →
        (n ≡ length p) ⊎ (n ≡ length q)
    less (inl e) = inl (omega arith)
    less (inr e) = inr (omega arith)
