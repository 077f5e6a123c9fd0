-- The rank is the one order of the file's orders, each with its place, in which each stands before
-- the next: weight falling, then colour rising, then place rising.
use Rattle.std.proofs.Common.{ℕ, suc, ◌+◌, ◌<◌, ◌≡◌, true, false, cond, eqb-true, List, [], ◌∷◌}
use Rattle.std.proofs.Common.{refl, sym, ap, ◌∙◌, arith, inl, inr}
use Rattle.std.proofs.lemmas.Bool.Decides.{nat_tests}
use Rattle.std.specs.Cmp.{IsStrictWeakOrder}
use Rattle.std.specs.List.{AllByRecursion}
use Rattle.list_laws.specs.Sets.{times, SameTimes}
use Rattle.mill_model.specs.Rank.{Placed, is_before, put_in_rank, rank_from, rank, precedes}
use Rattle.mill_model.specs.Rank.{placed_from, same_order, same_placed}
use Rattle.mill_model.specs.declared.order.Order.{Order}
use Rattle.mill_laws.specs.RankLaws.{Rising, RankRises, RankHasTheOrders, RankIsTheOnlyOne}
use Rattle.list_laws.proofs.Among.{each-at, each-weaker}
use Rattle.list_laws.proofs.InOrder.{InOrder, ordered-same}
use Rattle.list_laws.proofs.Tests.{either, and-left, and-right}
use Rattle.mill_laws.proofs.Settle.{same_order-eq}

pub precedes-trans : (x y z : Placed) → precedes x y ≡ true → precedes y z ≡ true →
    precedes x z ≡ true
precedes-trans x y z h k = grind (arith, nat_tests)

pub precedes-one-way : (x y : Placed) → precedes x y ≡ true → precedes y x ≡ false
precedes-one-way x y h = grind (arith, nat_tests)

pub precedes-self : (x : Placed) → precedes x x ≡ true → ⊥
precedes-self x h = grind (arith, nat_tests)

-- The rank rises: each order is put in ahead of those with a later place that it doesn't follow.

pub all-put : (P : Placed → Type 0) (new : Placed) (xs : List Placed) → P new →
    AllByRecursion P xs → AllByRecursion P (put_in_rank new xs)
all-put P new [] p h = (p, tt)
all-put P new (x ∷ xs) p h = elim (either (is_before x.order new.order)) [
  | inl e ↦ rw e (h.0, all-put P new xs p h.1)
  | inr e ↦ rw e (p, h)
]

pub put-rising : (new : Placed) (xs : List Placed) → AllByRecursion (λ x. new.place < x.place) xs →
    Rising xs → Rising (put_in_rank new xs)
put-rising new [] p r = (tt, tt)
put-rising new (x ∷ xs) p r = elim (either (is_before x.order new.order)) [
  | inl e ↦ rw e (
    all-put (λ y. precedes x y ≡ true) new xs (rw e refl) r.0,
    put-rising new xs p.1 r.1,
  )
  | inr e ↦ (let ahead : precedes new x ≡ true = grind (arith, nat_tests, p.0) in
      let of-all : (y : Placed) → precedes x y ≡ true → precedes new y ≡ true =
      λ y h. precedes-trans new x y ahead h in
      rw e (
        (
          ahead,
          each-weaker (λ y. precedes x y ≡ true) (λ y. precedes new y ≡ true) xs of-all
              r.0,
        ),
        r,
      ))
]

pub rank-places : (k j : ℕ) (orders : List Order) → k < j →
    AllByRecursion (λ x. k < x.place) (rank_from j orders)
rank-places k j [] l = tt
rank-places k j (o ∷ orders) l =
    all-put (λ x. k < x.place) (record { order = o; place = j }) (rank_from (suc j) orders) l
    (rank-places k (suc j) orders (omega arith))

pub rank-rising : (k : ℕ) (orders : List Order) → Rising (rank_from k orders)
rank-rising k [] = tt
rank-rising k (o ∷ orders) =
    put-rising (record { order = o; place = k }) (rank_from (suc k) orders)
    (rank-places k (suc k) orders (omega arith)) (rank-rising (suc k) orders)

-- The rank has the file's orders, each with its place.

pub same_placed-refl : (x : Placed) → same_placed x x ≡ true
same_placed-refl x = grind (arith, nat_tests)

pub same_placed-eq : (x y : Placed) → same_placed x y ≡ true → x ≡ y
same_placed-eq x y h =
    let order : x.order ≡ y.order =
    same_order-eq x.order y.order (and-left (same_order x.order y.order) _ h) in
    let place : x.place ≡ y.place =
    eqb-true x.place y.place (and-right (same_order x.order y.order) _ h) in
    λ i. record { order = order i; place = place i }

pub put-times : (x new : Placed) (xs : List Placed) →
    times same_placed x (put_in_rank new xs) ≡ times same_placed x (new ∷ xs)
put-times x new [] = refl
put-times x new (y ∷ xs) = elim (either (is_before y.order new.order)) [
  | inl e ↦ (let ih : times same_placed x (put_in_rank new xs) ≡ times same_placed x (new ∷ xs) =
      put-times x new xs in rw e (omega arith))
  | inr e ↦ rw e refl
]

pub rank-times : (k : ℕ) (orders : List Order) →
    SameTimes same_placed (rank_from k orders) (placed_from k orders)
rank-times k [] x = refl
rank-times k (order ∷ orders) x =
    put-times x (record { order = order; place = k }) (rank_from (suc k) orders)
    ∙ ap (λ n. cond (same_placed x (record { order = order; place = k })) 1 0 + n)
    (rank-times (suc k) orders x)

-- Placed orders that stand in this order are one list with all others that do and have the same
-- things, each as often.

precedes-chain : (x y z : Placed) → precedes x y ≡ false → precedes y z ≡ false →
    precedes x z ≡ false
precedes-chain x y z h k = grind (arith, nat_tests)

pub precedes-is-an-order : IsStrictWeakOrder precedes
precedes-is-an-order = record { one_way = precedes-one-way; chain = precedes-chain }

-- two of which neither precedes the other are one
pub neither-precedes : (x y : Placed) → precedes x y ≡ false → precedes y x ≡ false → x ≡ y
neither-precedes x y h k =
    let weight : x.order.weight ≡ y.order.weight = grind (arith, nat_tests) in
    let colour : x.order.colour ≡ y.order.colour = grind (arith, nat_tests) in
    let place : x.place ≡ y.place = grind (arith, nat_tests) in
    λ i. record { order = record { weight = weight i; colour = colour i }; place = place i }

pub one-in-order : (xs ys : List Placed) → InOrder precedes xs → InOrder precedes ys →
    SameTimes same_placed xs ys → xs ≡ ys
one-in-order = ordered-same precedes same_placed same_placed-eq same_placed-refl neither-precedes

pub rising-in-order : (xs : List Placed) → Rising xs → InOrder precedes xs
rising-in-order [] r = tt
rising-in-order (x ∷ xs) r = (
  λ y among. precedes-one-way x y (each-at (λ y. precedes x y ≡ true) y xs r.0 among),
  rising-in-order xs r.1,
)

-- The laws.

pub rank-rises : RankRises
rank-rises orders = rank-rising 0 orders

pub rank-has-the-orders : RankHasTheOrders
rank-has-the-orders orders = rank-times 0 orders

pub rank-is-the-only-one : RankIsTheOnlyOne
rank-is-the-only-one orders placed rises same =
    one-in-order placed (rank orders) (rising-in-order placed rises)
    (rising-in-order (rank orders) (rank-rising 0 orders)) (λ x.
    same x ∙ sym (rank-times 0 orders x))
