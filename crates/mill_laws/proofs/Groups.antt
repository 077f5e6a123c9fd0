-- How many groups a path has.
use Rattle.std.proofs.Common.{ℕ, suc, ◌<◌, ◌≤◌, ◌≡◌, max, eqb, ltb, true, List, [], ◌∷◌}
use Rattle.std.proofs.Common.{◌++◌, refl, arith, lt-ltb, eq-eqb}
use Rattle.std.specs.List.{list_all}
use Rattle.list_laws.specs.Sets.{holds}
use Rattle.list_laws.proofs.Tests.{or-left, or-right}
use Rattle.mill_model.specs.Plan.{slab}
use Rattle.mill_model.specs.Tree.{next_new}
use Rattle.mill_model.specs.declared.order.Order.{Order}
use Rattle.std.proofs.Common.{ne_eqb}

pub next_new-append : (xs ys : List ℕ) → next_new (xs ++ ys) ≡ max (next_new xs) (next_new ys)
next_new-append [] ys = omega arith
next_new-append (x ∷ xs) ys = omega (arith, next_new-append xs ys)

pub numbers-below : (n : ℕ) (xs : List ℕ) → next_new xs ≤ n → list_all (λ t. ltb t n) xs ≡ true
numbers-below n [] h = refl
numbers-below n (x ∷ xs) h = rw (lt-ltb x n (omega arith)) (numbers-below n xs (omega arith))

pub next_new-le : (n : ℕ) (xs : List ℕ) → ((i : ℕ) → holds i xs ≡ true → i < n) → next_new xs ≤ n
next_new-le n [] h = omega arith
next_new-le n (x ∷ xs) h =
    let first = h x (or-left (eqb x x) _ (eq-eqb x x refl)) in
    omega (arith, first, next_new-le n xs (λ i k. h i (or-right (eqb i x) _ k)))

pub next_new-push : (s : ℕ) (pre : List ℕ) →
    next_new (pre ++ s ∷ []) ≡ max (next_new pre) (suc s)
next_new-push s pre = omega (arith, next_new-append pre (s ∷ []))

-- A number that a path does not have yet has no orders.
pub slab-new : (s : ℕ) (path : List ℕ) (ranked : List Order) → next_new path ≤ s →
    slab s path ranked ≡ []
slab-new s [] ranked h = refl
slab-new s (g ∷ path) [] h = refl
slab-new s (g ∷ path) (order ∷ ranked) h =
    rw (ne_eqb s g (omega arith)) (slab-new s path ranked (omega arith))
