-- The settled plan has as many slabs of each kind, and is its own canonical form.
use Rattle.std.proofs.Common.{ℕ, zero, suc, ◌+◌, ◌<◌, ◌≤◌, ◌≡◌, Bool, true, false, cond, ◌&&◌, ◌||◌}
use Rattle.std.proofs.Common.{not, List, [], ◌∷◌, map, length, drop, get_or, eqb, ltb, leb, refl}
use Rattle.std.proofs.Common.{sym, ap, ap₂, ◌∙◌, arith, inl, inr, eqb-true, eq-eqb, leb-true}
use Rattle.std.proofs.Common.{ltb-true, lt-ltb, subst}
use Rattle.std.specs.Prelude.{Result, IfOk}
use Rattle.std.proofs.lemmas.Result.{IfOk-weaker}
use Rattle.std.specs.List.{All, AllByRecursion, list_all}
use Rattle.std.proofs.lemmas.List.Elements.{All-from_recursion, recursion_from_All}
use Rattle.std.proofs.lemmas.List.Sorted.{All-permutation}
use Rattle.std.proofs.Math.Seq.{drop-cons}
use Rattle.std.proofs.lemmas.List.{drop_all, length-map}
use Rattle.list_laws.specs.Sets.{holds}
use Rattle.mill_model.specs.Slab.{load}
use Rattle.mill_model.specs.Plan.{slab, numbers_each}
use Rattle.mill_model.specs.Rank.{Placed, is_before, same_order, put_in_rank, rank_from, rank}
use Rattle.mill_model.specs.Rank.{ranked_orders, plan_in_rank}
use Rattle.mill_model.specs.Tree.{next_new, canonical}
use Rattle.mill_model.specs.declared.order.Order.{Order}
use Rattle.list_laws.proofs.Tests.{and-left, and-right, either, equal-tests, or-cases}
use Rattle.list_laws.proofs.Tests.{or-left, or-right, or-swap}
use Rattle.list_laws.proofs.Among.{all-map}
use Rattle.list_laws.proofs.Sums.{total-cong}
use Rattle.mill_laws.proofs.Groups.{numbers-below, next_new-le}
use Rattle.mill_laws.proofs.Canonical.{place, place-eqb, slab-renamed, canonical-grows}
use Rattle.mill_laws.proofs.Canonical.{canonical-numbers}
use Rattle.list_laws.proofs.LastPlaces.{by_last, by_last-map, total-by_last}
use Rattle.mill_laws.proofs.GrowingNumbers.{canonical-same}
use Rattle.mill_model.proofs.Slabs.{colours_of}
use Rattle.mill_laws.proofs.Ranked.{rank-load, rank-colour, rank-length, ranked-each, get-below}
use Rattle.mill_laws.proofs.Ranked.{long, ranked-count}
use Rattle.mill_laws.proofs.Settle.{put, settle, settle-chosen, settle-grows, settle-rises, rises}
use Rattle.order_symmetry.specs.Ranked.{RankedOrders, IsPlanOf, orders_of, read_in_rank}
use Rattle.order_symmetry.specs.Twins.{looks_like, slabs_like, RiseInClasses, IsSortedTwin}
use Rattle.order_symmetry.specs.Twins.{SortsWithinClasses}
use Rattle.order_symmetry.proofs.Classes.{Ordered, ranked-ordered, sorts-numbers, sorts-settled}

-- what a test of all things sees of a list is which things it has
all-at : (test : ℕ → Bool) (xs : List ℕ) (c : ℕ) → list_all test xs ≡ true → holds c xs ≡ true →
    test c ≡ true
all-at test [] c h k = absurd (cc)
all-at test (x ∷ xs) c h k = elim (or-cases (eqb c x) (holds c xs) k) [
  | inl e ↦ rw (eqb-true c x e) (and-left (test x) _ h)
  | inr e ↦ all-at test xs c (and-right (test x) _ h) e
]

all-from : (test : ℕ → Bool) (xs : List ℕ) →
    ((c : ℕ) → holds c xs ≡ true → test c ≡ true) → list_all test xs ≡ true
all-from test [] h = refl
all-from test (x ∷ xs) h =
    rw (h x (or-left (eqb x x) (holds x xs) (eq-eqb x x refl))) (all-from test xs (λ c k.
    h c (or-right (eqb c x) (holds c xs) k)))

all-same : (test : ℕ → Bool) (xs ys : List ℕ) → ((c : ℕ) → holds c xs ≡ holds c ys) →
    list_all test xs ≡ list_all test ys
all-same test xs ys h =
    equal-tests (list_all test xs) (list_all test ys) (λ k. all-from test ys (λ c m.
    all-at test xs c k (h c ∙ m))) (λ k. all-from test xs (λ c m.
    all-at test ys c k (sym (h c) ∙ m)))

all-tests : (f g : ℕ → Bool) (xs : List ℕ) → ((c : ℕ) → f c ≡ g c) → list_all f xs ≡ list_all g xs
all-tests f g [] h = refl
all-tests f g (x ∷ xs) h = ap₂ (λ a b. a && b) (h x) (all-tests f g xs h)

looks-same : (weight : ℕ) (colours : List ℕ) (a b : List Order) → load a ≡ load b →
    ((c : ℕ) → holds c (colours_of a) ≡ holds c (colours_of b)) →
    looks_like weight colours a ≡ looks_like weight colours b
looks-same weight colours a b e h =
    ap₂ (λ x y. x && y) (ap (λ n. eqb n weight) e) (ap₂ (λ x y. x
    && y) (all-same (λ c. holds c colours) (colours_of a) (colours_of b) h)
    (all-tests (λ c. holds c (colours_of a)) (λ c. holds c (colours_of b)) colours h))

-- a plan in rank uses the same slabs
put-holds : (s : ℕ) (f : Placed → ℕ) (new : Placed) (xs : List Placed) →
    holds s (map f (put_in_rank new xs)) ≡ holds s (map f (new ∷ xs))
put-holds s f new [] = refl
put-holds s f new (x ∷ xs) = elim (either (is_before x.order new.order)) [
  | inl e ↦ rw (e, put-holds s f new xs)
      (or-swap (eqb s (f x)) (eqb s (f new)) (holds s (map f xs)))
  | inr e ↦ rw e refl
]

rank-holds : (s : ℕ) (plan : List ℕ) (k : ℕ) (orders : List Order) →
    k + length orders ≡ length plan →
    holds s (map (λ p. get_or plan p.place 0) (rank_from k orders)) ≡ holds s (drop k plan)
rank-holds s plan k [] e =
    rw (drop_all k plan (omega arith)) refl
rank-holds s plan k (o ∷ orders) e =
    put-holds s (λ p. get_or plan p.place 0) (record { order = o; place = k })
    (rank_from (suc k) orders)
    ∙ rw (drop-cons plan k 0 (omega arith)) (ap (λ b. eqb s (get_or plan k 0)
    || b) (rank-holds s plan (suc k) orders (omega arith)))

slabs-ranked : (orders : List Order) (plan : List ℕ) → numbers_each plan orders ≡ true →
    (weight : ℕ) (colours : List ℕ) →
    slabs_like weight colours (ranked_orders orders) (plan_in_rank orders plan) ≡ slabs_like weight
    colours orders plan
slabs-ranked orders plan each weight colours =
    rw (ranked-count orders) (total-cong (length orders) _ _ (λ s l.
    ap₂ (λ a b. cond (a && b) 1 0) (rank-holds s plan 0 orders (omega (
      arith,
      long orders plan each,
    )))
    (looks-same weight colours (slab s (plan_in_rank orders plan) (ranked_orders orders))
    (slab s plan orders) (rank-load s plan 0 orders (omega (arith, long orders plan each))) (λ c.
    rank-colour s plan c 0 orders (omega (arith, long orders plan each))))))

-- so does its canonical form, under other numbers
slabs-last : (weight : ℕ) (colours : List ℕ) (orders : List Order) (plan : List ℕ) →
    list_all (λ t. ltb t (length orders)) plan ≡ true →
    slabs_like weight colours orders plan ≡ by_last (λ s.
    cond (looks_like weight colours (slab s plan orders)) 1 0) plan
slabs-last weight colours orders plan h =
    total-cong (length orders) _ _ (λ s l.
    split (holds s plan) (looks_like weight colours (slab s plan orders)))
    ∙ total-by_last (length orders) (λ s.
    cond (looks_like weight colours (slab s plan orders)) 1 0) plan h
  where
    split : (a b : Bool) → ◌≡◌ {A = ℕ} (cond (a && b) 1 0) (cond a (cond b 1 0) 0)
    split true b = refl
    split false b = refl

slabs-canonical : (weight : ℕ) (colours : List ℕ) (orders : List Order) (plan : List ℕ) →
    list_all (λ t. ltb t (length orders)) plan ≡ true → length plan ≡ length orders →
    slabs_like weight colours orders (canonical plan) ≡ slabs_like weight colours orders plan
slabs-canonical weight colours orders plan h e =
    let n = length orders in
    let f : ℕ → ℕ = λ s. cond (looks_like weight colours (slab s plan orders)) 1 0 in
    let g : ℕ → ℕ = λ s. cond (looks_like weight colours (slab s (canonical plan) orders)) 1 0 in
    let numbers : next_new (canonical plan) ≤ n =
    next_new-le n (canonical plan) (λ i k. let l : i < length plan =
    canonical-numbers plan orders i k in omega arith) in
    slabs-last weight colours orders (canonical plan) (numbers-below n (canonical plan) numbers)
    ∙ by_last-map (place plan) f g plan (λ s t k m. place-eqb plan s t k m) (λ s k.
    ap (λ o. cond (looks_like weight colours o) 1 0) (slab-renamed (place plan) s plan orders
    (λ t m. place-eqb plan s t k m)))
    ∙ sym (slabs-last weight colours orders plan h)

-- and the settled numbers have the slabs that they had
put-number : (s a : ℕ) (orders : List Order) (more : List ℕ) →
    holds s (put a orders more) ≡ holds s (a ∷ more)
put-number s a orders [] = refl
put-number s a [] (b ∷ more) = refl
put-number s a (o ∷ []) (b ∷ more) = refl
put-number s a (o ∷ p ∷ orders) (b ∷ more) = elim (either (same_order o p && ltb b a)) [
  | inl e ↦ rw (e, put-number s a (p ∷ orders) more)
      (or-swap (eqb s b) (eqb s a) (holds s more))
  | inr e ↦ rw e refl
]

settle-number : (s : ℕ) (orders : List Order) (numbers : List ℕ) →
    holds s (settle orders numbers) ≡ holds s numbers
settle-number s orders [] = refl
settle-number s [] (a ∷ more) = refl
settle-number s (o ∷ orders) (a ∷ more) =
    put-number s a (o ∷ orders) (settle orders more)
    ∙ ap (λ b. eqb s a || b) (settle-number s orders more)

slabs-settled : (weight : ℕ) (colours : List ℕ) (orders : List Order) (numbers : List ℕ) →
    slabs_like weight colours orders (settle orders numbers) ≡ slabs_like weight colours orders
    numbers
slabs-settled weight colours orders numbers =
    total-cong (length orders) _ _ (λ s l. ap₂ (λ a b.
    cond (a && looks_like weight colours b) 1 0) (settle-number s orders numbers)
    (settle-chosen s orders numbers))

-- numbers that rise between neighbours of one class do not fall within a class
pub rise-in-classes : (orders : List Order) (numbers : List ℕ) → rises orders numbers ≡ true →
    RiseInClasses orders numbers
rise-in-classes orders [] h k l s = absurd (omega arith)
rise-in-classes orders (g ∷ []) h k l s = absurd (omega arith)
rise-in-classes [] (g ∷ i ∷ more) h k l s = absurd (cc)
rise-in-classes (o ∷ []) (g ∷ i ∷ more) h zero l s = absurd (cc)
rise-in-classes (o ∷ []) (g ∷ i ∷ more) h (suc k) l s = absurd (cc)
rise-in-classes (o ∷ p ∷ orders) (g ∷ i ∷ more) h zero l s =
    leb-true g i (over (same_order o p) s (and-left (not (same_order o p) || leb g i) _ h))
  where
    over : (b : Bool) → not b ≡ false → (not b || leb g i) ≡ true → leb g i ≡ true
    over true e r = r
    over false e r = absurd (cc)
rise-in-classes (o ∷ p ∷ orders) (g ∷ i ∷ more) h (suc k) l s =
    rise-in-classes (p ∷ orders) (i ∷ more) (and-right (not (same_order o p) || leb g i) _ h) k
    (omega arith) s

-- the plan that settled numbers stand for
module _ (orders : List Order) (plan : List ℕ) (each : numbers_each plan orders ≡ true) where
  abbrev pub settled : List ℕ
  settled = settle (ranked_orders orders) (canonical (plan_in_rank orders plan))

  own-form : canonical settled ≡ settled
  own-form =
      canonical-same settled (settle-grows 0 (ranked_orders orders)
      (canonical (plan_in_rank orders plan)) (canonical-grows (plan_in_rank orders plan)))

  read : numbers_each (plan_in_rank orders plan) (ranked_orders orders) ≡ true
  read = ranked-each orders plan each

  pub settled-twin : (twin : List ℕ) → IsPlanOf orders settled twin → IsSortedTwin orders plan twin
  settled-twin twin is = record {
    each = is.each;
    rise =
        rw (is.in_rank, own-form) (rise-in-classes (ranked_orders orders) settled
        (settle-rises (ranked_orders orders) (canonical (plan_in_rank orders plan))));
    alike = λ weight colours. sym (slabs-ranked orders twin is.each weight colours)
        ∙ ap (slabs_like weight colours (ranked_orders orders)) is.in_rank
        ∙ slabs-settled weight colours (ranked_orders orders)
        (canonical (plan_in_rank orders plan))
        ∙ slabs-canonical weight colours (ranked_orders orders) (plan_in_rank orders plan)
        (and-right (eqb (length (plan_in_rank orders plan)) (length (ranked_orders orders))) _ read)
        (eqb-true _ _ (and-left (eqb (length (plan_in_rank orders plan))
        (length (ranked_orders orders))) _ read))
        ∙ slabs-ranked orders plan each weight colours;
  }

low-each : (n : ℕ) (xs : List ℕ) → list_all (λ s. ltb s n) xs ≡ true →
    AllByRecursion (λ s. s < n) xs
low-each n [] h = tt
low-each n (x ∷ xs) h =
    (ltb-true x n (and-left (ltb x n) _ h), low-each n xs (and-right (ltb x n) _ h))

each-low : (n : ℕ) (xs : List ℕ) → AllByRecursion (λ s. s < n) xs →
    list_all (λ s. ltb s n) xs ≡ true
each-low n [] h = refl
each-low n (x ∷ xs) h = rw (lt-ltb x n h.0) (each-low n xs h.1)

-- what the code makes of a plan
module _ (ranked : RankedOrders) (plan : List ℕ)
    (each : numbers_each plan (orders_of ranked) ≡ true) where
  count : length (orders_of ranked) ≡ length ranked.placed
  count = length-map ranked.placed _

  plan-long : length plan ≡ length ranked.placed
  plan-long = eqb-true _ _ (and-left (eqb (length plan) (length (orders_of ranked))) _ each) ∙ count

  read-long : length (read_in_rank ranked plan) ≡ length ranked.placed
  read-long = length-map ranked.placed _

  pub read-low : All (λ s. s < length (read_in_rank ranked plan)) (read_in_rank ranked plan)
  read-low =
      All-from_recursion (λ s. s < length (read_in_rank ranked plan)) (read_in_rank ranked plan)
      (low-each (length (read_in_rank ranked plan)) (read_in_rank ranked plan) (rw read-long
      (go ranked.placed refl)))
    where
      go : (xs : List Placed) → xs ≡ ranked.placed →
          list_all (λ s. ltb s (length ranked.placed)) (map (λ p. get_or plan p.place 0) xs) ≡ true
      go [] q = refl
      go (x ∷ xs) q =
          let l : length ranked.placed ≡ suc (length xs) = rw (← q) refl in
          all-map (λ s. ltb s (length ranked.placed)) (λ p. get_or plan p.place 0) (x ∷ xs) (λ p.
          lt-ltb _ _ (get-below (length ranked.placed) plan p.place (omega arith)
          (subst (λ n. list_all (λ s. ltb s n) plan ≡ true) count
          (and-right (eqb (length plan) (length (orders_of ranked))) _ each))))

  module _ (sorted : List ℕ)
      (sorts : SortsWithinClasses (orders_of ranked) (canonical (read_in_rank ranked plan)) sorted)
    where
      wide : length (canonical (read_in_rank ranked plan)) ≡ length (orders_of ranked)
      wide = length-map (read_in_rank ranked plan) _ ∙ read-long ∙ sym count

      pub sorted-each : numbers_each sorted (orders_of ranked) ≡ true
      sorted-each =
          let n : ℕ = length (orders_of ranked) in
          let v : List ℕ = read_in_rank ranked plan in
          let most : next_new (canonical v) ≤ length v =
          next_new-le (length v) (canonical v) (canonical-numbers v (orders_of ranked)) in
          let same : length v ≡ n = read-long ∙ sym count in
          let low : list_all (λ s. ltb s n) (canonical v) ≡ true =
          numbers-below n (canonical v) (omega arith) in
          rw (eq-eqb (length sorted) n (sorts.long ∙ wide)) (each-low n sorted
          (recursion_from_All (λ s. s < n) sorted (All-permutation (λ s. s < n) (canonical v) sorted
          (sorts-numbers (orders_of ranked) (canonical v) sorted wide sorts)
          (All-from_recursion (λ s. s < n) (canonical v) (low-each n (canonical v) low)))))

      -- for the file whose rank it is
      sorted-twin : (orders : List Order) (twin : List ℕ) → ranked.placed ≡ rank orders →
          IsPlanOf orders sorted twin → IsSortedTwin orders plan twin
      sorted-twin orders twin e is =
          let same : orders_of ranked ≡ ranked_orders orders =
          ap (λ (xs : List Placed). map (λ p. p.order) xs) e in
          let read : read_in_rank ranked plan ≡ plan_in_rank orders plan =
          ap (λ (xs : List Placed). map (λ p. get_or plan p.place 0) xs) e in
          let long : length (orders_of ranked) ≡ length orders =
          count ∙ ap (λ (xs : List Placed). length xs) e ∙ rank-length 0 orders in
          let file : numbers_each plan orders ≡ true =
          subst (λ n. (eqb (length plan) n && list_all (λ s. ltb s n) plan) ≡ true) long each in
          let settles : sorted ≡ settled orders plan file =
          sorts-settled (orders_of ranked) (canonical (read_in_rank ranked plan)) sorted
          (subst Ordered (sym same) (ranked-ordered orders)) wide sorts
          ∙ ap₂ (λ a b. settle a (canonical b)) same read in
          settled-twin orders plan file twin (subst (λ path. IsPlanOf orders path twin) settles is)

      pub returned-twin : {E : Type 0} (r : Result (List ℕ) E) (path : List ℕ) → path ≡ sorted →
          IfOk r (λ twin. (orders : List Order) → ranked.placed ≡ rank orders →
          IsPlanOf orders path twin) → IfOk r (λ twin. (orders : List Order) →
          ranked.placed ≡ rank orders → IsSortedTwin orders plan twin)
      returned-twin r path p h =
          IfOk-weaker r (λ twin. (orders : List Order) → ranked.placed ≡ rank orders →
          IsPlanOf orders path twin) (λ twin. (orders : List Order) →
          ranked.placed ≡ rank orders → IsSortedTwin orders plan twin) (λ twin is orders e.
          sorted-twin orders twin e (subst (λ xs. IsPlanOf orders xs twin) p (is orders e))) h
