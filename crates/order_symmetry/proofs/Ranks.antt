-- A file's orders, sorted by the key, are its rank.
use Rattle.std.proofs.Common.{ℕ, suc, ◌+◌, ◌≡◌, List, [], ◌∷◌, ◌++◌, map, refl}
use Rattle.std.proofs.Common.{sym, ap, ◌∙◌, arith, length, get_or, take, ◌<◌}
use Rattle.std.proofs.lemmas.List.Sorted.{IsPermutation-map}
use Rattle.std.proofs.lemmas.List.{get_or-map, length-map, take_more, length-take, map-append}
use Rattle.std.specs.List.{AllByRecursion}
use Rattle.std.specs.List.Sorted.{IsPermutation, IsSortedBy}
use Rattle.list_laws.specs.Sets.{times}
use Rattle.mill_model.specs.Rank.{Placed, rank_from, rank, precedes}
use Rattle.mill_model.specs.Rank.{same_placed}
use Rattle.mill_model.specs.declared.order.Order.{Order}
use Rattle.list_laws.proofs.InOrder.{sorted-in-order, times-moved}
use Rattle.mill_laws.proofs.Ranking.{rank-rising, all-put, one-in-order, rising-in-order}
use Rattle.mill_laws.proofs.Ranking.{precedes-is-an-order, rank-times}
use Rattle.order_symmetry.specs.Numbered.{placed_of, stands_before}
use Rattle.order_symmetry.specs.declared.numbered.Numbered.{Numbered}
use Rattle.mill_model.specs.Rank.{placed_from}

pub placed_from-append : (k : ℕ) (xs ys : List Order) →
    placed_from k (xs ++ ys) ≡ placed_from k xs ++ placed_from (k + length xs) ys
placed_from-append k [] ys = ap (λ n. placed_from n ys) (omega arith)
placed_from-append k (x ∷ xs) ys =
    let e : suc k + length xs ≡ k + suc (length xs) = omega arith in
    ap (λ l. record { order = x; place = k } ∷ l) (placed_from-append (suc k) xs ys
    ∙ ap (λ n. placed_from (suc k) xs ++ placed_from n ys) e)

-- one more of them
pub placed-more : (orders : List Order) (items : List Numbered) (i : ℕ) (d : Order) →
    i < length orders → map placed_of items ≡ placed_from 0 (take i orders) →
    map placed_of (items ++ record { order = get_or orders i d; number = i } ∷ []) ≡ placed_from 0
    (take (i + 1) orders)
placed-more orders items i d l h =
    let more : take (i + 1) orders ≡ take i orders ++ get_or orders i d ∷ [] =
    take_more orders i d l in
    let long : 0 + length (take i orders) ≡ i = omega (arith, length-take i orders) in
    map-append placed_of items (record { order = get_or orders i d; number = i } ∷ [])
    ∙ ap (λ xs. xs ++ record { order = get_or orders i d; place = i } ∷ []) h
    ∙ sym (rw (more, placed_from-append 0 (take i orders) (get_or orders i d ∷ []), long) refl)

-- what holds of each order at its place holds of each in rank
pub rank-each : (P : Placed → Type 0) (k : ℕ) (orders : List Order) →
    AllByRecursion P (placed_from k orders) → AllByRecursion P (rank_from k orders)
rank-each P k [] h = tt
rank-each P k (order ∷ orders) h =
    all-put P (record { order = order; place = k }) (rank_from (suc k) orders) h.0
    (rank-each P (suc k) orders h.1)

pub sorted-map : (items : List Numbered) → IsSortedBy stands_before items →
    IsSortedBy precedes (map placed_of items)
sorted-map items up k d l h =
    let e : Numbered = record { order = d.order; number = d.place } in
    let n : length (map placed_of items) ≡ length items = length-map items placed_of in
    rw (
      get_or-map placed_of items (k + 1) e d (omega arith),
      get_or-map placed_of items k e d (omega arith),
    ) (up k e (omega arith) (omega arith))

pub sorted-rank : (orders : List Order) (given items : List Numbered) →
    map placed_of given ≡ placed_from 0 orders → IsPermutation given items →
    IsSortedBy stands_before items → map placed_of items ≡ rank orders
sorted-rank orders given items e p up =
    one-in-order (map placed_of items) (rank orders)
    (sorted-in-order precedes precedes-is-an-order (map placed_of items) (sorted-map items up))
    (rising-in-order (rank orders) (rank-rising 0 orders)) (λ x.
    times-moved same_placed x (map placed_of given) (map placed_of items)
    (IsPermutation-map placed_of given items p) ∙ ap (times same_placed x) e
    ∙ sym (rank-times 0 orders x))
