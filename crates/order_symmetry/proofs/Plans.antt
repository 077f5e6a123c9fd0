-- A plan of the file's orders, filled in from a path.
use Rattle.std.proofs.Common.{ℕ, zero, suc, ◌+◌, ◌<◌, ◌≤◌, ◌≡◌, ◌≢◌, Bool, true, ◌&&◌, List, []}
use Rattle.std.proofs.Common.{◌∷◌, ◌++◌, map, length, drop, take, get_or, set, replicate, eqb, ltb}
use Rattle.std.proofs.Common.{refl, sym, ap, ap₂, ◌∙◌, arith, inl, inr, subst, eq-eqb, eqb-true}
use Rattle.std.proofs.Common.{false-eqb, lt-ltb, get_or-set_same, get_or-set_other}
use Rattle.std.proofs.lemmas.List.{length-map, length-set, length-replicate, get_or-map}
use Rattle.std.proofs.lemmas.List.{get_or-replicate, take_more}
use Rattle.std.specs.List.{AllByRecursion, list_all}
use Rattle.list_laws.specs.Sets.{each_below}
use Rattle.mill_model.specs.Slab.{legal}
use Rattle.mill_model.specs.Plan.{slab, numbers_each, loss}
use Rattle.mill_model.specs.Rank.{Placed, rank, ranked_orders, plan_in_rank, precedes, placed_from}
use Rattle.mill_model.specs.declared.order.Order.{Order}
use Rattle.list_laws.proofs.Tests.{and-left, and-right, last-or-below, either}
use Rattle.list_laws.proofs.Lists.{drop-step}
use Rattle.mill_laws.proofs.Ranking.{precedes-self, rank-rising}
use Rattle.mill_laws.specs.RankLaws.{Rising}
use Rattle.mill_laws.proofs.Ranked.{get-below, rank-length, ranked-loss, same-legal, ranked-count}
use Rattle.order_symmetry.specs.Numbered.{placed_of}
use Rattle.order_symmetry.specs.Ranked.{RankedOrders, IsPlanOf, homes_of, read_in_rank}
use Rattle.order_symmetry.specs.declared.numbered.Numbered.{Numbered}
use Rattle.order_symmetry.proofs.Limits.{each-get}
use Rattle.order_symmetry.proofs.Places.{orders_in, places_in, place-at}
use Rattle.order_symmetry.proofs.Ranks.{rank-each}

-- no number stands at two places
abbrev pub Apart : List ℕ → Type 0
Apart places = (i j : ℕ) → i < j → j < length places → get_or places i 0 ≢ get_or places j 0

rising-at : (xs : List Placed) (i j : ℕ) (d : Placed) → Rising xs → i < j → j < length xs →
    precedes (get_or xs i d) (get_or xs j d) ≡ true
rising-at [] i j d r l m = absurd (omega arith)
rising-at (x ∷ xs) i zero d r l m = absurd (omega arith)
rising-at (x ∷ xs) zero (suc j) d r l m = each-at xs j r.0 (omega arith)
  where
    each-at : (ys : List Placed) (j : ℕ) → AllByRecursion (λ y. precedes x y ≡ true) ys →
        j < length ys → precedes x (get_or ys j d) ≡ true
    each-at [] j h l = absurd (omega arith)
    each-at (y ∷ ys) zero h l = h.0
    each-at (y ∷ ys) (suc j) h l = each-at ys j h.1 (omega arith)
rising-at (x ∷ xs) (suc i) (suc j) d r l m = rising-at xs i j d r.1 (omega arith) (omega arith)

-- each placed order is the one at its place in the file
abbrev OwnPlace : List Order → Placed → Type 0
OwnPlace orders x = (d : Order) → get_or orders x.place d ≡ x.order

get-dropped : (orders : List Order) (k : ℕ) (o d : Order) (rest : List Order) →
    drop k orders ≡ o ∷ rest → get_or orders k d ≡ o
get-dropped [] zero o d rest e = absurd (cc)
get-dropped (x ∷ orders) zero o d rest e = cc
get-dropped [] (suc k) o d rest e = absurd (cc)
get-dropped (x ∷ orders) (suc k) o d rest e = get-dropped orders k o d rest e

own-places : (orders : List Order) (k : ℕ) (rest : List Order) → drop k orders ≡ rest →
    AllByRecursion (OwnPlace orders) (placed_from k rest)
own-places orders k [] e = tt
own-places orders k (o ∷ rest) e = (
  λ d. get-dropped orders k o d rest e,
  own-places orders (suc k) rest (drop-step k orders o rest e),
)

own-at : (orders : List Order) (xs : List Placed) (k : ℕ) (d : Placed) →
    AllByRecursion (OwnPlace orders) xs → k < length xs → OwnPlace orders (get_or xs k d)
own-at orders [] k d h l = absurd (omega arith)
own-at orders (x ∷ xs) zero d h l = h.0
own-at orders (x ∷ xs) (suc k) d h l = own-at orders xs k d h.1 (omega arith)

places-at : (xs : List Placed) (k : ℕ) (d : Placed) → k < length xs →
    get_or (map (λ x. x.place) xs) k 0 ≡ (get_or xs k d).place
places-at [] k d l = absurd (omega arith)
places-at (x ∷ xs) zero d l = refl
places-at (x ∷ xs) (suc k) d l = places-at xs k d (omega arith)

-- the places of a rank are apart
pub rank-apart : (orders : List Order) → Apart (map (λ x. x.place) (rank orders))
rank-apart orders i j l m e =
    let d : Placed = record { order = record { weight = 0; colour = 0 }; place = 0 } in
    let xs : List Placed = rank orders in
    let n : length (map (λ (x : Placed). x.place) xs) ≡ length xs = length-map xs (λ x. x.place) in
    let x : Placed = get_or xs i d in
    let y : Placed = get_or xs j d in
    let own : AllByRecursion (OwnPlace orders) xs =
    rank-each (OwnPlace orders) 0 orders (own-places orders 0 orders refl) in
    let p : x.place ≡ y.place =
    sym (places-at xs i d (omega arith)) ∙ e ∙ places-at xs j d (omega arith) in
    let o : x.order ≡ y.order =
    sym (own-at orders xs i d own (omega arith) d.order) ∙ ap (λ k. get_or orders k d.order) p
    ∙ own-at orders xs j d own (omega arith) d.order in
    let same : x ≡ y = λ t. record { order = o t; place = p t } in
    precedes-self y (subst (λ z. precedes z y ≡ true) same
    (rising-at xs i j d (rank-rising 0 orders) l (omega arith)))

-- the numbers of a path for the first i places are filled in
pub record IsFilled (places path slabs : List ℕ) (i : ℕ) : Type 0 where
  pub size : length slabs ≡ length places
  pub done : (j : ℕ) → j < i → get_or slabs (get_or places j 0) 0 ≡ get_or path j 0
  pub low : (j : ℕ) → j < length places → get_or slabs j 0 < length places

pub filled-more : (places path slabs : List ℕ) (i home v : ℕ) → IsFilled places path slabs i →
    Apart places → i < length places → home ≡ get_or places i 0 → home < length places →
    v ≡ get_or path i 0 → v < length places → IsFilled places path (set slabs home v) (i + 1)
filled-more places path slabs i home v f apart l e below is low =
    let size : length slabs ≡ length places = f.size in
    record {
      size = length-set slabs home v ∙ size;
      done = λ j m. elim (last-or-below j i (omega arith)) [
        | inl q ↦ rw (q, ← e) (get_or-set_same slabs home v 0 (omega arith) ∙ is)
        | inr k ↦ (let other : get_or places j 0 ≢ home = λ q. apart j i k l (q ∙ e) in
            get_or-set_other slabs home (get_or places j 0) v 0 other ∙ f.done j k)
      ];
      low = λ j m. elim (either (eqb j home)) [
        | inl q ↦ (let here : get_or (set slabs home v) j 0 ≡ v =
            rw (eqb-true j home q) (get_or-set_same slabs home v 0 (omega arith)) in omega arith)
        | inr q ↦ (let there : get_or (set slabs home v) j 0 ≡ get_or slabs j 0 =
            get_or-set_other slabs home j v 0 (false-eqb j home (sym q)) in
            let before : get_or slabs j 0 < length places = f.low j m in
            omega arith)
      ];
    }

pub filled-none : (places path : List ℕ) → IsFilled places path (replicate (length places) 0) 0
filled-none places path = record {
  size = length-replicate (length places) 0;
  done = λ j l. absurd (omega arith);
  low = λ j l. rw (get_or-replicate {A = ℕ} (length places) j 0 0 l) (omega arith);
}

-- a path that gives each of some orders a number below their number
module _ (items : List Numbered) (path : List ℕ)
    (each : numbers_each path (orders_in items) ≡ true) where
  count : length (places_in items) ≡ length (orders_in items)
  count =
      length-map (map placed_of items) (λ x. x.place)
      ∙ sym (length-map (map placed_of items) (λ x. x.order))

  pub path-long : length path ≡ length (places_in items)
  path-long =
      eqb-true _ _ (and-left (eqb (length path) (length (orders_in items))) _ each) ∙ sym count

  pub path-low : (k : ℕ) → k < length path → get_or path k 0 < length (places_in items)
  path-low k l =
      rw count (get-below (length (orders_in items)) path k (omega (arith, path-long, count))
      (and-right (eqb (length path) (length (orders_in items))) _ each))

all-below : (n : ℕ) (xs : List ℕ) → ((j : ℕ) → j < length xs → get_or xs j 0 < n) →
    list_all (λ s. ltb s n) xs ≡ true
all-below n [] h = refl
all-below n (x ∷ xs) h =
    rw (lt-ltb x n (h 0 (omega arith))) (all-below n xs (λ j l. h (suc j) (omega arith)))

each_below-same : (n : ℕ) (f g : ℕ → Bool) → ((s : ℕ) → f s ≡ g s) →
    each_below n f ≡ each_below n g
each_below-same zero f g h = refl
each_below-same (suc n) f g h = ap₂ (λ a b. a && b) (each_below-same n f g h) (h n)

read-back : (xs : List Placed) (path slabs : List ℕ) → length xs ≡ length path →
    ((j : ℕ) → j < length xs → get_or slabs (get_or (map (λ x. x.place) xs) j 0) 0 ≡ get_or path j
    0)
    → map (λ x. get_or slabs x.place 0) xs ≡ path
read-back [] [] slabs e h = refl
read-back [] (g ∷ path) slabs e h = absurd (omega arith)
read-back (x ∷ xs) [] slabs e h = absurd (omega arith)
read-back (x ∷ xs) (g ∷ path) slabs e h =
    ap₂ (λ a b. a ∷ b) (h 0 (omega arith)) (read-back xs path slabs (omega arith) (λ j l.
    h (suc j) (omega arith)))

-- all of it filled in
pub filled-plan : (orders : List Order) (path slabs : List ℕ) → length path ≡ length orders →
    IsFilled (map (λ x. x.place) (rank orders)) path slabs (length orders) →
    IsPlanOf orders path slabs
filled-plan orders path slabs e f =
    let places : List ℕ = map (λ (x : Placed). x.place) (rank orders) in
    let n : length (rank orders) ≡ length orders = rank-length 0 orders in
    let m : length places ≡ length (rank orders) = length-map (rank orders) (λ x. x.place) in
    let size : length slabs ≡ length places = f.size in
    let each : numbers_each slabs orders ≡ true =
    rw (eq-eqb (length slabs) (length orders) (omega arith))
    (all-below (length orders) slabs (λ j l. let b : get_or slabs j 0 < length places =
    f.low j (omega arith) in omega arith)) in
    let back : plan_in_rank orders slabs ≡ path =
    read-back (rank orders) path slabs (omega arith) (λ j l. f.done j (omega arith)) in
    record {
      each = each;
      in_rank = back;
      legal =
          λ mill. each_below-same (length orders) (λ s. legal mill (slab s slabs orders)) (λ s.
          legal mill (slab s path (ranked_orders orders))) (λ s.
          sym (same-legal orders slabs each mill s) ∙ ap (λ p.
          legal mill (slab s p (ranked_orders orders))) back)
          ∙ ap (λ k. each_below k (λ s. legal mill (slab s path (ranked_orders orders))))
          (sym (ranked-count orders));
      loses =
          λ charge. sym (ranked-loss orders slabs each charge) ∙ ap (λ p.
          loss charge p (ranked_orders orders)) back;
    }

-- the place at a rank is that of a number
pub home-low : (items : List Numbered) (k : ℕ) (x : Numbered) →
    AllByRecursion (λ y. y.place < length (map placed_of items)) (map placed_of items) →
    k < length (places_in items) → x ≡ get_or items k x → x.number < length (places_in items)
home-low items k x h l e =
    let n : length (map placed_of items) ≡ length items = length-map items placed_of in
    let m : length (places_in items) ≡ length (map placed_of items) =
    length-map (map placed_of items) (λ x. x.place) in
    rw m (subst (λ (y : Numbered). y.number < length (map placed_of items)) (sym e)
    (each-get (λ y. y.place < length (map placed_of items)) items h k x (omega arith)))

-- one step of filling in
pub filled-step : (orders : List Order) (items : List Numbered) (path slabs : List ℕ) (i : ℕ)
    (x : Numbered) → map placed_of items ≡ rank orders →
    AllByRecursion (λ y. y.place < length (map placed_of items)) (map placed_of items) →
    numbers_each path (orders_in items) ≡ true → i < length path → x ≡ get_or items i x →
    IsFilled (places_in items) path slabs i →
    IsFilled (places_in items) path (set slabs x.number (get_or path i 0)) (i + 1)
filled-step orders items path slabs i x ranks h each l e f =
    let long : length path ≡ length (places_in items) = path-long items path each in
    let n : length (map placed_of items) ≡ length items = length-map items placed_of in
    let m : length (places_in items) ≡ length (map placed_of items) =
    length-map (map placed_of items) (λ x. x.place) in
    let apart : Apart (places_in items) =
    subst (λ (xs : List Placed). Apart (map (λ y. y.place) xs)) (sym ranks) (rank-apart orders) in
    filled-more (places_in items) path slabs i x.number (get_or path i 0) f apart (omega arith)
    (place-at items i x (omega arith) e) (home-low items i x h (omega arith) e) refl
    (path-low items path each i l)

pub filled-all : (orders : List Order) (items : List Numbered) (path slabs : List ℕ) (i : ℕ) →
    map placed_of items ≡ rank orders → numbers_each path (orders_in items) ≡ true →
    length path ≤ i → IsFilled (places_in items) path slabs i → IsPlanOf orders path slabs
filled-all orders items path slabs i e each l f =
    let n : length (map placed_of items) ≡ length orders =
    ap (λ (xs : List Placed). length xs) e ∙ rank-length 0 orders in
    let m : length (places_in items) ≡ length (map placed_of items) =
    length-map (map placed_of items) (λ x. x.place) in
    let long : length path ≡ length (places_in items) = path-long items path each in
    let g : IsFilled (places_in items) path slabs (length orders) = record {
      size = f.size;
      done = λ j k. f.done j (omega arith);
      low = f.low;
    } in
    filled-plan orders path slabs (omega arith) (subst (λ (xs : List Placed).
    IsFilled (map (λ x. x.place) xs) path slabs (length orders)) e g)

-- reading a plan of the file's orders in rank
pub read-more : (ranked : RankedOrders) (plan items : List ℕ) (i home : ℕ) →
    i < length ranked.placed → home ≡ get_or (homes_of ranked) i 0 →
    items ≡ take i (read_in_rank ranked plan) →
    items ++ get_or plan home 0 ∷ [] ≡ take (i + 1) (read_in_rank ranked plan)
read-more ranked plan items i home l e h =
    let d : Placed = record { order = record { weight = 0; colour = 0 }; place = 0 } in
    let n : length (read_in_rank ranked plan) ≡ length ranked.placed =
    length-map ranked.placed (λ x. get_or plan x.place 0) in
    let here : get_or (read_in_rank ranked plan) i 0 ≡ get_or plan home 0 =
    get_or-map (λ (x : Placed). get_or plan x.place 0) ranked.placed i d 0 l
    ∙ ap (λ k. get_or plan k 0) (sym (places-at ranked.placed i d l) ∙ sym e) in
    rw (take_more (read_in_rank ranked plan) i 0 (omega arith), here) (ap (λ xs.
    xs ++ get_or plan home 0 ∷ []) h)
