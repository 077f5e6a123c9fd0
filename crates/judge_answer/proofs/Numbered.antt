-- The plan of an answer that fits an instance gives each order a slab.
use Rattle.std.proofs.Common.{◌≡◌, ℕ, suc, ◌<◌, List, [], ◌∷◌, length, true, ltb, refl, arith}
use Rattle.std.proofs.Common.{eq-eqb}
use Rattle.std.specs.Prelude.{All}
use Rattle.std.specs.List.{list_all}
use Rattle.mill_model.specs.Plan.{numbers_each}
use Rattle.mill_model.specs.declared.order.Order.{Order}

-- numbers below the number of orders, one for each
pub numbers-from : (orders : List Order) (plan : List ℕ) → length plan ≡ length orders →
    All (λ s. s < length orders) plan → numbers_each plan orders ≡ true
numbers-from orders plan count below =
    rw (eq-eqb (length plan) (length orders) count) (all-below plan below)
  where
    all-below : (plan : List ℕ) → All (λ s. s < length orders) plan →
        list_all (λ s. ltb s (length orders)) plan ≡ true
    all-below [] below = refl
    all-below (s ∷ plan) below =
        let first : s < length orders = below 0 0 (omega arith) in
        let test : ltb s (length orders) ≡ true = grind arith in
        rw test (all-below plan (λ i d inside. below (suc i) d (omega arith)))
