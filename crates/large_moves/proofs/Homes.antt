-- The places of ranked orders in the file: each once, in whatever order they stand.
use Rattle.std.proofs.Common.{ℕ, zero, suc, ◌+◌, ◌<◌, ◌≤◌, ◌≡◌, ◌≢◌, true, false, cond, List, []}
use Rattle.std.proofs.Common.{◌∷◌, ◌++◌, map, length, take, get_or, set, eqb, sum_by, Some, refl}
use Rattle.std.proofs.Common.{sym, ap, ap₂, ◌∙◌, arith, inl, inr, subst, eq-eqb, ne_eqb}
use Rattle.std.proofs.Common.{get_or-set_same, get_or-set_other}
use Rattle.std.specs.List.{slice_get}
use Rattle.std.specs.List.Sorted.{IsPermutation}
use Rattle.std.proofs.lemmas.Bool.{cases_lt}
use Rattle.std.proofs.lemmas.List.{take_more, map-append, get_or-map}
use Rattle.std.proofs.lemmas.List.Sorted.{IsPermutation-refl, IsPermutation-cons}
use Rattle.std.proofs.lemmas.List.Sorted.{IsPermutation-trans, IsPermutation-map}
use Rattle.std.proofs.lemmas.List.Sorted.{IsPermutation-swap, sum_by-IsPermutation}
use Rattle.std.proofs.lemmas.List.Sums.{sum_by-cons}
use Rattle.mill_model.specs.Rank.{Placed, is_before, put_in_rank, rank_from, placed_from}
use Rattle.list_laws.specs.Sets.{times}
use Rattle.mill_model.specs.declared.order.Order.{Order}
use Rattle.list_laws.proofs.Tests.{either, last-or-below}
use Rattle.large_moves.specs.Coloured.{placed_of, homes_of, plan_of, AreHomes}
use Rattle.large_moves.specs.declared.coloured.Coloured.{Coloured}

-- The rank has the orders of the file.

put-permutes : (new : Placed) (xs : List Placed) → IsPermutation (put_in_rank new xs) (new ∷ xs)
put-permutes new [] = IsPermutation-refl (new ∷ [])
put-permutes new (y ∷ xs) = elim (either (is_before y.order new.order)) [
  | inl e ↦ rw e (IsPermutation-trans (y ∷ put_in_rank new xs) (y ∷ new ∷ xs) (new ∷ y ∷ xs)
      (IsPermutation-cons y (put_in_rank new xs) (new ∷ xs) (put-permutes new xs))
      (IsPermutation-swap (y ∷ new ∷ xs) (new ∷ y ∷ xs) 0 1 (omega arith) (omega arith) refl))
  | inr e ↦ rw e (IsPermutation-refl (new ∷ y ∷ xs))
]

pub rank-permutes : (k : ℕ) (orders : List Order) →
    IsPermutation (rank_from k orders) (placed_from k orders)
rank-permutes k [] = IsPermutation-refl []
rank-permutes k (order ∷ orders) =
    let new : Placed = record { order = order; place = k } in
    IsPermutation-trans (put_in_rank new (rank_from (suc k) orders))
    (new ∷ rank_from (suc k) orders) (new ∷ placed_from (suc k) orders)
    (put-permutes new (rank_from (suc k) orders))
    (IsPermutation-cons new (rank_from (suc k) orders) (placed_from (suc k) orders)
    (rank-permutes (suc k) orders))

-- How often a place stands in the file.

abbrev places_of : List Placed → List ℕ
places_of placed = map (λ p. p.place) placed

times-low : (v k : ℕ) (orders : List Order) → v < k →
    times eqb v (places_of (placed_from k orders)) ≡ 0
times-low v k [] h = refl
times-low v k (order ∷ orders) h =
    let e : eqb v k ≡ false = ne_eqb v k (λ q. absurd (omega (arith, q, h))) in
    let rest = times-low v (suc k) orders (omega arith) in
    rw e (omega (arith, rest))

times-high : (v k : ℕ) (orders : List Order) → k + length orders ≤ v →
    times eqb v (places_of (placed_from k orders)) ≡ 0
times-high v k [] h = refl
times-high v k (order ∷ orders) h =
    let e : eqb v k ≡ false = ne_eqb v k (λ q. absurd (omega (arith, q, h))) in
    let rest = times-high v (suc k) orders (omega arith) in
    rw e (omega (arith, rest))

times-once : (v k : ℕ) (orders : List Order) →
    times eqb v (places_of (placed_from k orders)) ≤ 1
times-once v k [] = omega arith
times-once v k (order ∷ orders) = elim (either (eqb v k)) [
  | inl e ↦ (let none = times-low v (suc k) orders (same e) in rw e (omega (arith, none)))
  | inr e ↦ (let rest = times-once v (suc k) orders in rw e (omega (arith, rest)))
]
  where
    same : eqb v k ≡ true → v < suc k
    same e = let q : v ≡ k = eqb-same e in omega (arith, q)
      where
        eqb-same : eqb v k ≡ true → v ≡ k
        eqb-same e = grind arith

times-sum : (v : ℕ) (xs : List ℕ) → times eqb v xs ≡ sum_by (λ x. cond (eqb v x) 1 0) xs
times-sum v [] = refl
times-sum v (x ∷ xs) = ap (λ n. cond (eqb v x) 1 0 + n) (times-sum v xs)
    ∙ sym (sum_by-cons (λ x. cond (eqb v x) 1 0) x xs)

times-same : (v : ℕ) (xs ys : List ℕ) → IsPermutation xs ys → times eqb v xs ≡ times eqb v ys
times-same v xs ys h = times-sum v xs
    ∙ sym (sum_by-IsPermutation (λ x. cond (eqb v x) 1 0) xs ys h) ∙ sym (times-sum v ys)

times-at : (xs : List ℕ) (k : ℕ) → k < length xs → 1 ≤ times eqb (get_or xs k 0) xs
times-at [] k h = absurd (omega arith)
times-at (x ∷ xs) zero h = let e : eqb x x ≡ true = eq-eqb x x refl in rw e (omega arith)
times-at (x ∷ xs) (suc k) h =
    let rest : 1 ≤ times eqb (get_or xs k 0) xs = times-at xs k (omega arith) in
    omega (arith, rest)

times-two : (xs : List ℕ) (i k : ℕ) → i < k → k < length xs → get_or xs i 0 ≡ get_or xs k 0 →
    2 ≤ times eqb (get_or xs i 0) xs
times-two [] i k l h e = absurd (omega arith)
times-two (x ∷ xs) i zero l h e = absurd (omega arith)
times-two (x ∷ xs) zero (suc k) l h e =
    let here : eqb x x ≡ true = eq-eqb x x refl in
    let at : 1 ≤ times eqb (get_or xs k 0) xs = times-at xs k (omega arith) in
    let rest : 1 ≤ times eqb x xs = subst (λ v. 1 ≤ times eqb v xs) (sym e) at in
    rw here (omega (arith, rest))
times-two (x ∷ xs) (suc i) (suc k) l h e =
    let rest : 2 ≤ times eqb (get_or xs i 0) xs =
    times-two xs i k (omega arith) (omega arith) e in
    omega (arith, rest)

-- places that are those of the file in another order
pub are-homes : (orders : List Order) (coloured : List Coloured) →
    IsPermutation (map placed_of coloured) (placed_from 0 orders) →
    AreHomes (homes_of coloured) (length orders)
are-homes orders coloured same = record {
  within = λ k h. elim (cases_lt (get_or (homes_of coloured) k 0) (length orders)) [
    | inl l ↦ l
    | inr g ↦ (let at = times-at (homes_of coloured) k h in
        let none = times-high (get_or (homes_of coloured) k 0) 0 orders (omega (arith, g)) in
        let t = times-file (get_or (homes_of coloured) k 0) in
        absurd (omega (arith, at, none, t)))
  ];
  apart = λ i k l h e.
      (let two = times-two (homes_of coloured) i k l h e in
      let one = times-once (get_or (homes_of coloured) i 0) 0 orders in
      let t = times-file (get_or (homes_of coloured) i 0) in
      absurd (omega (arith, two, one, t)));
}
  where
    homes-places : (coloured : List Coloured) →
        homes_of coloured ≡ places_of (map placed_of coloured)
    homes-places [] = refl
    homes-places (c ∷ coloured) = ap (λ l. c.home ∷ l) (homes-places coloured)

    times-file : (v : ℕ) →
        times eqb v (homes_of coloured) ≡ times eqb v (places_of (placed_from 0 orders))
    times-file v = ap (times eqb v) (homes-places coloured)
        ∙ times-same v (places_of (map placed_of coloured)) (places_of (placed_from 0 orders))
        (IsPermutation-map (λ (p : Placed). p.place) (map placed_of coloured)
        (placed_from 0 orders) same)

-- Going through them.

abbrev nobody : Coloured
nobody = record { order = record { weight = 0; colour = 0 }; home = 0 }

pub home-at : (coloured : List Coloured) (i : ℕ) → i < length coloured →
    get_or (homes_of coloured) i 0
    ≡ (get_or coloured i (record { order = record { weight = 0; colour = 0 }; home = 0 })).home
home-at coloured i h = get_or-map (λ (c : Coloured). c.home) coloured i nobody 0 h

-- one more ranked order
pub placed-next : (placed : List Placed) (items : List Coloured) (k : ℕ) (order : Order)
    (home : ℕ) → k < length placed → slice_get (map (λ p. p.order) placed) k ≡ Some order →
    home ≡ get_or (map (λ p. p.place) placed) k 0 → map placed_of items ≡ take k placed →
    map placed_of (items ++ record { order = order; home = home } ∷ []) ≡ take (k + 1) placed
placed-next placed items k order home h o p e =
    let d : Placed = record { order = order; place = home } in
    map-append placed_of items (record { order = order; home = home } ∷ [])
    ∙ ap (λ l. l ++ d ∷ []) e ∙ ap (λ x. take k placed ++ x ∷ []) (sym (at placed k h o p))
    ∙ sym (take_more placed k d h)
  where
    at : (placed : List Placed) (k : ℕ) → k < length placed →
        slice_get (map (λ p. p.order) placed) k ≡ Some order →
        home ≡ get_or (map (λ p. p.place) placed) k 0 →
        get_or placed k (record { order = order; place = home })
        ≡ record { order = order; place = home }
    at [] k h o p = absurd (omega arith)
    at (x ∷ placed) zero h o p =
        let same : x.order ≡ order = cc in
        let place : x.place ≡ home = sym p in
        λ t. record { order = same t; place = place t }
    at (x ∷ placed) (suc k) h o p = at placed k (omega arith) o p

-- one more slab put back
pub back-next : (homes slabs plan : List ℕ) (i home v : ℕ) → AreHomes homes (length slabs) →
    i < length homes → home ≡ get_or homes i 0 → v ≡ get_or plan i 0 →
    ((k : ℕ) → k < i → get_or slabs (get_or homes k 0) 0 ≡ get_or plan k 0) →
    (k : ℕ) → k < i + 1 → get_or (set slabs home v) (get_or homes k 0) 0 ≡ get_or plan k 0
back-next homes slabs plan i home v are h e is back k l = elim (last-or-below k i (omega arith)) [
  | inl q ↦ (let within = are.within i h in
      rw (q, ← e) (get_or-set_same slabs home v 0 (omega (arith, within, e)) ∙ is))
  | inr m ↦ (let other : get_or homes k 0 ≢ home = λ q. are.apart k i m h (q ∙ e) in
      get_or-set_other slabs home (get_or homes k 0) v 0 other ∙ back k m)
]

-- where all are put back, the plan is read again
pub back-all : (coloured : List Coloured) (slabs plan : List ℕ) → length plan ≡ length coloured →
    ((k : ℕ) → k < length coloured →
    get_or slabs (get_or (homes_of coloured) k 0) 0 ≡ get_or plan k 0) →
    plan_of coloured slabs ≡ plan
back-all [] slabs [] e h = refl
back-all [] slabs (s ∷ plan) e h = absurd (omega arith)
back-all (c ∷ coloured) slabs [] e h = absurd (omega arith)
back-all (c ∷ coloured) slabs (s ∷ plan) e h = ap₂ (λ a b. a ∷ b) (h 0 (omega arith))
    (back-all coloured slabs plan (omega arith) (λ k l. h (suc k) (omega arith)))
