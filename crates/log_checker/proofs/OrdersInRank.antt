-- Orders in rank, by two stable sorts: by colour, and then by weight, which leaves orders of one
-- weight as they were. No order then stands before one that precedes it, and the orders of a file
-- make only one such list. (The rank of mill_laws has the places too, which the checker doesn't
-- keep.)
use Rattle.std.proofs.Common.{ℕ, suc, ◌+◌, ◌-◌, ◌<◌, ◌≤◌, ◌≡◌, true, false, cond, subst, List, []}
use Rattle.std.proofs.Common.{◌∷◌, map, length, get_or, refl, sym, ap, ap₂, ◌∙◌, arith, inl, inr}
use Rattle.std.proofs.lemmas.Bool.Decides.{nat_tests}
use Rattle.std.specs.List.{All}
use Rattle.std.specs.List.Sorted.{IsPermutation, IsNonDecreasingBy}
use Rattle.mill_model.specs.Instance.{IsOrder}
use Rattle.list_laws.specs.Sets.{times}
use Rattle.mill_model.specs.Rank.{Placed, is_before, same_order, put_in_rank, rank_from}
use Rattle.mill_model.specs.Rank.{ranked_orders, rank, precedes}
use Rattle.mill_laws.specs.RankLaws.{Rising}
use Rattle.mill_laws.proofs.Ranking.{rank-rising}
use Rattle.mill_laws.proofs.Settle.{same_order-eq}
use Rattle.mill_model.specs.declared.order.Order.{Order}
use Rattle.list_laws.proofs.Among.{Among-unmap, each-at}
use Rattle.list_laws.proofs.Tests.{either}
use Rattle.list_laws.proofs.InOrder.{InOrder, ordered-same, times-moved}

same-self : (a : Order) → same_order a a ≡ true
same-self a = grind (arith, nat_tests)

-- no later order stands strictly before an earlier one
abbrev pub InRank : List Order → Type 0
InRank xs = InOrder is_before xs

neither-before : (a b : Order) → is_before a b ≡ false → is_before b a ≡ false → a ≡ b
neither-before a b h k =
    let w : a.weight ≡ b.weight = grind (arith, nat_tests) in
    let c : a.colour ≡ b.colour = grind (arith, nat_tests) in
    ap₂ (λ w c. record { weight = w; colour = c }) w c

-- the orders in rank are one list
rank-unique : (xs ys : List Order) → InRank xs → InRank ys →
    ((o : Order) → times same_order o xs ≡ times same_order o ys) → xs ≡ ys
rank-unique = ordered-same is_before same_order same_order-eq same-self neither-before

-- the rank of a file is in rank, and has its orders
abbrev bare : List Placed → List Order
bare placed = map (λ p. p.order) placed

later-not : (x y z : Order) → is_before y x ≡ false → is_before z y ≡ false →
    is_before z x ≡ false
later-not x y z a b = grind (arith, nat_tests)

rising-in-rank : (xs : List Placed) → Rising xs → InRank (bare xs)
rising-in-rank [] r = tt
rising-in-rank (x ∷ xs) r = (
  λ y among. (let later = Among-unmap (λ p. p.order) y xs among in
      subst (λ o. is_before o x.order ≡ false) (sym later.2) (not-before x later.0
      (each-at (λ z. precedes x z ≡ true) later.0 xs r.0 later.1))),
  rising-in-rank xs r.1,
)
  where
    not-before : (x z : Placed) → precedes x z ≡ true → is_before z.order x.order ≡ false
    not-before x z h = grind (arith, nat_tests)

put-times : (o : Order) (new : Placed) (xs : List Placed) →
    times same_order o (bare (put_in_rank new xs))
    ≡ cond (same_order o new.order) 1 0 + times same_order o (bare xs)
put-times o new [] = refl
put-times o new (x ∷ xs) = elim (either (is_before x.order new.order)) [
  | inl b ↦ (let ih : times same_order o (bare (put_in_rank new xs))
      ≡ cond (same_order o new.order) 1 0 + times same_order o (bare xs) =
      put-times o new xs in
      rw b (omega arith))
  | inr b ↦ rw b
]

rank-times : (o : Order) (k : ℕ) (orders : List Order) →
    times same_order o (bare (rank_from k orders)) ≡ times same_order o orders
rank-times o k [] = refl
rank-times o k (x ∷ orders) =
    put-times o (record { order = x; place = k }) (rank_from (suc k) orders)
    ∙ ap (λ n. cond (same_order o x) 1 0 + n) (rank-times o (suc k) orders)

-- orders in rank that are those of a file
pub in-rank-is : (orders xs : List Order) → IsPermutation orders xs → InRank xs →
    xs ≡ ranked_orders orders
in-rank-is orders xs p r =
    rank-unique xs (ranked_orders orders) r (rising-in-rank (rank orders) (rank-rising 0 orders))
    (λ o. times-moved same_order o orders xs p ∙ sym (rank-times o 0 orders))

-- what two sorts leave is in rank
adjacent-in-rank : (xs : List Order) →
    ((k : ℕ) (d : Order) → k + 1 < length xs →
    is_before (get_or xs (k + 1) d) (get_or xs k d) ≡ false) → InRank xs
adjacent-in-rank [] h = tt
adjacent-in-rank (x ∷ []) h = (λ y m. absurd m, tt)
adjacent-in-rank (x ∷ y ∷ xs) h =
    let r : InRank (y ∷ xs) = adjacent-in-rank (y ∷ xs) (λ k d l.
    let e : suc k + 1 ≡ suc (k + 1) = omega arith in
    let f : is_before (get_or (x ∷ y ∷ xs) (suc k + 1) d) (get_or (y ∷ xs) k d) ≡ false =
    h (suc k) d (omega arith) in rw e at f) in
    let first : is_before y x ≡ false = h 0 x (omega arith) in (
      λ z m. elim m [ inl e ↦ rw e first | inr i ↦ later-not x y z first (r.0 z i) ],
      r,
    )

pub two-sorts : (xs : List Order) → All IsOrder xs →
    IsNonDecreasingBy (λ (o : Order). 4294967295 - o.weight) xs →
    ((k : ℕ) (d : Order) → k + 1 < length xs →
    4294967295 - (get_or xs k d).weight ≡ 4294967295 - (get_or xs (k + 1) d).weight →
    (get_or xs k d).colour ≤ (get_or xs (k + 1) d).colour) → InRank xs
two-sorts xs small falls ties = adjacent-in-rank xs (λ k d l.
    let a = small k d (omega arith) in
    let b = small (k + 1) d l in
    let n : 4294967295 - (get_or xs k d).weight ≤ 4294967295 - (get_or xs (k + 1) d).weight =
    falls k (k + 1) d (omega arith) l in
    go (get_or xs k d) (get_or xs (k + 1) d) a.0.1 b.0.1 n (ties k d l))
  where
    go : (x y : Order) → x.weight ≤ 1000000 → y.weight ≤ 1000000 →
        4294967295 - x.weight ≤ 4294967295 - y.weight →
        (4294967295 - x.weight ≡ 4294967295 - y.weight → x.colour ≤ y.colour) →
        is_before y x ≡ false
    go x y a b n t =
        let w : y.weight ≤ x.weight = omega arith in
        let c : x.weight ≡ y.weight → x.colour ≤ y.colour = λ e. t (ap (λ z. 4294967295 - z) e) in
        end x y w c
      where
        end : (x y : Order) → y.weight ≤ x.weight →
            (x.weight ≡ y.weight → x.colour ≤ y.colour) → is_before y x ≡ false
        end x y w c = grind (arith, nat_tests)

-- weights fall in rank
pub falls-from : (xs : List Order) → All IsOrder xs →
    IsNonDecreasingBy (λ (o : Order). 4294967295 - o.weight) xs →
    (i j : ℕ) (d : Order) → i ≤ j → j < length xs → (get_or xs j d).weight ≤ (get_or xs i d).weight
falls-from xs small falls i j d a b =
    let x = small i d (omega arith) in
    let y = small j d b in
    let n : 4294967295 - (get_or xs i d).weight ≤ 4294967295 - (get_or xs j d).weight =
    falls i j d a b in
    go (get_or xs i d).weight (get_or xs j d).weight x.0.1 y.0.1 n
  where
    go : (v w : ℕ) → v ≤ 1000000 → w ≤ 1000000 → 4294967295 - v ≤ 4294967295 - w → w ≤ v
    go v w a b h = omega arith
