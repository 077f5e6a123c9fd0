-- The orders of an instance that is made are within the limits, and none is heavy.
use Rattle.std.proofs.Common.{ℕ, zero, suc, ◌+◌, ◌*◌, ◌≤◌, ◌≡◌, List, [], ◌∷◌, length}
use Rattle.std.proofs.Common.{arith, length-append, refl}
use Rattle.std.specs.Prelude.{All}
use Rattle.std.proofs.lemmas.List.Elements.{All-nil, All-push}
use Rattle.std.proofs.lemmas.Nat.{mod_below}
use Rattle.mill_model.specs.Heavy.{NoneHeavy}
use Rattle.mill_model.specs.Instance.{IsOrder, largest}
use Rattle.mill_model.specs.Slab.{load}
use Rattle.mill_model.specs.declared.order.Order.{Order}
use Rattle.instance_drill.specs.Draws.{draw}
use Rattle.instance_drill.specs.Drilled.{order_at, orders_from, sizes}

pub orders-count : (seed count : ℕ) → length (orders_from seed count) ≡ count
orders-count seed zero = refl
orders-count seed (suc count) =
    omega (
      arith,
      length-append (orders_from seed count) (order_at seed count ∷ []),
      orders-count seed count,
    )

-- what holds of each order by its place holds of all
each-placed : (P : Order → Type 0) (seed : ℕ) → ((place : ℕ) → P (order_at seed place)) →
    (count : ℕ) → All P (orders_from seed count)
each-placed P seed holds zero = All-nil P
each-placed P seed holds (suc count) =
    All-push P (orders_from seed count) (order_at seed count)
    (each-placed P seed holds count) (holds count)

order-within : (seed place : ℕ) → IsOrder (order_at seed place)
order-within seed place =
    let weight = mod_below (draw seed (2 * place)) 22 (omega arith) in
    let colour = mod_below (draw seed (2 * place + 1)) 20 (omega arith) in
    ((omega arith, omega arith), (omega arith, omega arith))

order-light : (seed place : ℕ) → (order_at seed place).weight ≤ largest sizes
order-light seed place =
    let weight = mod_below (draw seed (2 * place)) 22 (omega arith) in
    omega arith

pub each-order : (seed count : ℕ) → All IsOrder (orders_from seed count)
each-order seed = each-placed IsOrder seed (order-within seed)

pub none-heavy : (seed count : ℕ) → NoneHeavy (largest sizes) (orders_from seed count)
none-heavy seed = each-placed (λ order. order.weight ≤ largest sizes) seed (order-light seed)

-- what orders within the limits weigh together
pub load-small : (orders : List Order) → All IsOrder orders →
    load orders ≤ 1000000 * length orders
load-small [] each = omega arith
load-small (order ∷ orders) each =
    let first = (each 0 order (omega arith)).0.1 in
    let later = load-small orders (λ k d within. each (suc k) d (omega arith)) in
    omega (arith, first, later)
