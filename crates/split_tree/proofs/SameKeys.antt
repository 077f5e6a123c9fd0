-- Keys of two paths of one tree are equal exactly where mill_model's live keys of the paths are the
-- same. Two groups are alike to the later orders exactly where their key groups are equal, since
-- the coming colours are those of the later orders. So each live group of a path stands as often
-- among the live groups of another path as its key group does among the other's. Key groups are in
-- a total order in which only equal ones tie, so sorted lists that have each as often are one list.
use Rattle.std.proofs.Common.{ℕ, zero, suc, ◌+◌, ◌-◌, ◌<◌, ◌≡◌, ◌&&◌, ◌||◌, Bool, true, false, cond}
use Rattle.std.proofs.Common.{List, [], ◌∷◌, ◌++◌, map, filter, length, drop, replicate, get_or}
use Rattle.std.proofs.Common.{eqb, eqb-true, eq-eqb, refl, sym, ap, ap₂, ◌∙◌, subst, arith, inl}
use Rattle.std.proofs.Common.{inr}
use Rattle.std.proofs.Common.{Ordering, Less, Equal, Greater}
use Rattle.std.specs.Prelude.{Contains}
use Rattle.std.specs.Cmp.Lexicographic.{slice_cmp}
use Rattle.std.specs.Ordering.{nat_cmp, ordering_reverse, is_lt, is_eq}
use Rattle.std.specs.List.{list_all, AllByRecursion}
use Rattle.std.specs.List.Sorted.{IsPermutation, IsSortedByKey}
use Rattle.std.proofs.lemmas.Cmp.{nat_cmp_total}
use Rattle.std.proofs.lemmas.List.Folds.{list_all-append}
use Rattle.std.proofs.lemmas.List.MinMax.{ranks_by}
use Rattle.std.proofs.lemmas.Map.Views.{tells_apart}
use Rattle.list_laws.specs.Sets.{holds, times, same_times, below}
use Rattle.list_laws.proofs.Tests.{either, and-left, and-right, or-left, or-right, equal-tests}
use Rattle.list_laws.proofs.Tests.{clash}
use Rattle.list_laws.proofs.Different.{holds-append}
use Rattle.list_laws.proofs.Times.{same_times-all}
use Rattle.list_laws.proofs.Among.{all-from}
use Rattle.list_laws.proofs.InOrder.{InOrder, sorted-in-order, ordered-same, times-moved}
use Rattle.mill_model.proofs.RisingLists.{same_rising}
use Rattle.mill_model.specs.Instance.{IsOrder}
use Rattle.mill_model.specs.Rank.{Placed}
use Rattle.mill_model.specs.Tree.{later_orders, next_new}
use Rattle.mill_model.specs.Plan.{slab}
use Rattle.mill_model.specs.LiveKey.{LiveGroup, has_colour, has_live, seen_from, same_marks}
use Rattle.mill_model.specs.LiveKey.{same_group, same_live_key, live_groups}
use Rattle.mill_model.specs.declared.order.Order.{Order}
use Rattle.mill_laws.proofs.Mated.{same_marks-refl, same_marks-eq}
use Rattle.order_symmetry.specs.Ranked.{RankedOrders, IsRanked, orders_of}
use Rattle.order_symmetry.proofs.Limits.{each-order}
use Rattle.split_tree.specs.Keys.{Key, IsLiveKey, IsRisingListOf, group_order, same_key}
use Rattle.split_tree.specs.Keys.{key_group, padded, EqualKeysAreSameLiveKeys}
use Rattle.split_tree.specs.KeyLaws.{group_total, group-exact, groups-exact, same-key-is-equal}
use Rattle.split_tree.specs.declared.live_key.KeyGroup.{KeyGroup}
use Rattle.split_tree.specs.declared.live_key.TheConstants.{NO_COLOUR}

-- Comparisons that tie only what is equal.

-- an order that gives the same both ways ties
self-tied : (o : Ordering) → o ≡ ordering_reverse o → o ≡ Equal
self-tied Less e = absurd (cc)
self-tied Equal e = refl
self-tied Greater e = absurd (cc)

group-self : (a : KeyGroup) → group_order a a ≡ Equal
group-self a = self-tied (group_order a a) (group_total.antisymm a a)

groups-self : (xs : List KeyGroup) → slice_cmp group_order xs xs ≡ Equal
groups-self [] = refl
groups-self (x ∷ xs) = rw (group-self x, groups-self xs) refl

number-self : (n : ℕ) → nat_cmp n n ≡ Equal
number-self n = self-tied (nat_cmp n n) (nat_cmp_total.antisymm n n)

-- Key groups.

abbrev alike : KeyGroup → KeyGroup → Bool
alike a b = is_eq (group_order a b)

abbrev less : KeyGroup → KeyGroup → Bool
less a b = is_lt (group_order a b)

alike-eq : (a b : KeyGroup) → alike a b ≡ true → a ≡ b
alike-eq = tells_apart group-exact

alike-self : (a : KeyGroup) → alike a a ≡ true
alike-self a = rw (group-self a) refl

tied : (a b : KeyGroup) → less a b ≡ false → less b a ≡ false → a ≡ b
tied a b h k =
    group-exact a b (go (group_order a b) (group_order b a) (group_total.antisymm a b) h k)
  where
    go : (r s : Ordering) → r ≡ ordering_reverse s → is_lt r ≡ false → is_lt s ≡ false → r ≡ Equal
    go Less s e h k = absurd (clash true refl h)
    go Equal s e h k = refl
    go Greater Less e h k = absurd (clash true refl k)
    go Greater Equal e h k = e
    go Greater Greater e h k = absurd (cc)

-- Which colours come again.

holds-at : (xs : List ℕ) (k x : ℕ) → k < length xs → get_or xs k x ≡ x → holds x xs ≡ true
holds-at [] k x l e = absurd (omega arith)
holds-at (y ∷ xs) zero x l e = or-left (eqb x y) (holds x xs) (eq-eqb x y (sym e))
holds-at (y ∷ xs) (suc k) x l e =
    or-right (eqb x y) (holds x xs) (holds-at xs k x (omega arith) e)

contains-holds : (x : ℕ) (xs : List ℕ) → Contains xs x → holds x xs ≡ true
contains-holds x xs c = holds-at xs c.0 x c.1 c.2

holds-contains : (x : ℕ) (xs : List ℕ) → holds x xs ≡ true → Contains xs x
holds-contains x [] h = absurd (clash false h refl)
holds-contains x (y ∷ xs) h = elim (either (eqb x y)) [
  | inl e ↦ (zero, omega arith, sym (eqb-true x y e))
  | inr e ↦ (let k : holds x xs ≡ true = rw e at h in let c = holds-contains x xs k in
      (suc c.0, omega (arith, c.1), c.2))
]

holds-passed : (p : ℕ → Bool) (x : ℕ) (xs : List ℕ) →
    holds x (filter p xs) ≡ (p x && holds x xs)
holds-passed p x [] = none (p x)
  where
    none : (b : Bool) → false ≡ (b && false)
    none true = refl
    none false = refl
holds-passed p x (y ∷ xs) = one (p y) refl (holds-passed p x xs)
  where
    one : (b : Bool) → p y ≡ b → holds x (filter p xs) ≡ (p x && holds x xs) →
        holds x (cond b (y ∷ filter p xs) (filter p xs)) ≡ (p x && (eqb x y || holds x xs))
    one b e ih = elim (either (eqb x y)) [
      | inl s ↦ (let same : x ≡ y = eqb-true x y s in at-first b e s (ap p same) ih)
      | inr s ↦ rw s (later b e s ih)
    ]
      where
        at-first : (b : Bool) → p y ≡ b → eqb x y ≡ true → p x ≡ p y →
            holds x (filter p xs) ≡ (p x && holds x xs) →
            holds x (cond b (y ∷ filter p xs) (filter p xs)) ≡ (p x && (eqb x y || holds x xs))
        at-first true e s f ih = rw (f, e, s) refl
        at-first false e s f ih = ih ∙ rw (f, e) refl

        later : (b : Bool) → p y ≡ b → eqb x y ≡ false →
            holds x (filter p xs) ≡ (p x && holds x xs) →
            holds x (cond b (y ∷ filter p xs) (filter p xs)) ≡ (p x && holds x xs)
        later true e s ih = rw s ih
        later false e s ih = ih

-- no colour is that of the places behind the last one
holds-padded : (x : ℕ) (xs : List ℕ) → x < NO_COLOUR → holds x (padded xs) ≡ holds x xs
holds-padded x xs l = holds-append x xs (replicate (8 - length xs) NO_COLOUR)
    ∙ ap (λ b. holds x xs || b) (behind (8 - length xs)) ∙ or-false (holds x xs)
  where
    or-false : (b : Bool) → (b || false) ≡ b
    or-false true = refl
    or-false false = refl

    other : eqb x NO_COLOUR ≡ false
    other = elim (either (eqb x NO_COLOUR)) [
      | inl e ↦ absurd (let same : x ≡ NO_COLOUR = eqb-true x NO_COLOUR e in omega arith)
      | inr e ↦ e
    ]

    behind : (n : ℕ) → holds x (replicate n NO_COLOUR) ≡ false
    behind zero = refl
    behind (suc n) = rw other (behind n)

-- the marks of some orders are those of another test exactly where it passes the same colours
marks-from : (p q : ℕ → Bool) (rest : List Order) →
    ((c : ℕ) → has_colour rest c ≡ true → p c ≡ q c) →
    map (λ o. p o.colour) rest ≡ map (λ o. q o.colour) rest
marks-from p q [] h = refl
marks-from p q (o ∷ rest) h =
    ap₂ (λ a b. a ∷ b) (h o.colour (or-left _ _ (eq-eqb o.colour o.colour refl)))
    (marks-from p q rest (λ c k. h c (or-right (eqb c o.colour) _ k)))

marks-tell : (p q : ℕ → Bool) (rest : List Order) (c : ℕ) →
    map (λ o. p o.colour) rest ≡ map (λ o. q o.colour) rest → has_colour rest c ≡ true → p c ≡ q c
marks-tell p q [] c e h = absurd (clash false h refl)
marks-tell p q (o ∷ rest) c e h = elim (either (eqb c o.colour)) [
  | inl s ↦ (let same : c ≡ o.colour = eqb-true c o.colour s in
      rw same (ap (λ marks. get_or marks 0 false) e))
  | inr s ↦ (let k : has_colour rest c ≡ true = rw s at h in
      marks-tell p q rest c (ap (drop 1) e) k)
]

passed-alike : (p q : ℕ → Bool) (xs : List ℕ) → ((c : ℕ) → holds c xs ≡ true → p c ≡ q c) →
    filter p xs ≡ filter q xs
passed-alike p q [] h = refl
passed-alike p q (x ∷ xs) h =
    let first : p x ≡ q x = h x (or-left (eqb x x) (holds x xs) (eq-eqb x x refl)) in
    ap₂ (λ b l. cond b (x ∷ l) l) first
    (passed-alike p q xs (λ c k. h c (or-right (eqb c x) (holds c xs) k)))

-- Two groups, as the same later orders see them.
module _ (rest : List Order) (coming : List ℕ)
    (low : (c : ℕ) → has_colour rest c ≡ true → c < NO_COLOUR)
    (rising : IsRisingListOf (map (λ order. order.colour) rest) coming) where
  comes : (c : ℕ) → has_colour rest c ≡ true → holds c coming ≡ true
  comes c h = contains-holds c coming (rising.kept c (holds-contains c _ h))

  came : (c : ℕ) → holds c coming ≡ true → has_colour rest c ≡ true
  came c h = contains-holds c _ (rising.only c (holds-contains c coming h))

  module _ (g h : List Order) where
    abbrev marks : List Order → List Bool
    marks group = map (λ order. has_colour group order.colour) rest

    abbrev colours_of : List Order → List ℕ
    colours_of group = padded (filter (has_colour group) coming)

    marks-padded : marks g ≡ marks h → colours_of g ≡ colours_of h
    marks-padded e =
        ap padded (passed-alike (has_colour g) (has_colour h) coming
        (λ c k. marks-tell (has_colour g) (has_colour h) rest c e (came c k)))

    padded-marks : colours_of g ≡ colours_of h → marks g ≡ marks h
    padded-marks e =
        marks-from (has_colour g) (has_colour h) rest
        (λ c k. plain (has_colour g c) (has_colour h c) (holds c coming) (comes c k)
        (sym (told g c k) ∙ ap (holds c) e ∙ told h c k))
      where
        told : (group : List Order) (c : ℕ) → has_colour rest c ≡ true →
            holds c (colours_of group) ≡ (has_colour group c && holds c coming)
        told group c k =
            holds-padded c (filter (has_colour group) coming) (low c k)
            ∙ holds-passed (has_colour group) c coming

        plain : (u v w : Bool) → w ≡ true → (u && w) ≡ (v && w) → u ≡ v
        plain true true w k h = refl
        plain true false w k h = sym k ∙ h
        plain false true w k h = h ∙ k
        plain false false w k h = refl

  module _ (g h : List Order) where
    abbrev a : LiveGroup
    a = seen_from rest g

    abbrev b : LiveGroup
    b = seen_from rest h

    seen-key : same_group a b ≡ true → alike (key_group coming g) (key_group coming h) ≡ true
    seen-key t =
        let counts = and-left (eqb a.load b.load && eqb a.colours b.colours) _ t in
        let l : a.load ≡ b.load = eqb-true _ _ (and-left (eqb a.load b.load) _ counts) in
        let c : a.colours ≡ b.colours = eqb-true _ _ (and-right (eqb a.load b.load) _ counts) in
        let m = same_marks-eq a.coming b.coming
        (and-right (eqb a.load b.load && eqb a.colours b.colours) _ t) in
        let p = marks-padded g h m in
        let same : key_group coming g ≡ key_group coming h =
        λ i. record { load = l i; colours = c i; coming = p i } in
        subst (λ k. alike (key_group coming g) k ≡ true) same (alike-self (key_group coming g))

    key-seen : alike (key_group coming g) (key_group coming h) ≡ true → same_group a b ≡ true
    key-seen t =
        let same = alike-eq (key_group coming g) (key_group coming h) t in
        let l : a.load ≡ b.load = ap (λ (k : KeyGroup). k.load) same in
        let c : a.colours ≡ b.colours = ap (λ (k : KeyGroup). k.colours) same in
        let m = padded-marks g h (ap (λ (k : KeyGroup). k.coming) same) in
        rw (eq-eqb _ _ l, eq-eqb _ _ c)
        (subst (λ k. same_marks a.coming k ≡ true) m (same_marks-refl a.coming))

    pub seen-alike : same_group a b ≡ alike (key_group coming g) (key_group coming h)
    seen-alike = equal-tests _ _ seen-key key-seen

-- Lists of things that are told alike by two tests.
module _ {X Y : Type 0} (same : X → X → Bool) (alike : Y → Y → Bool) where
  times-told : (x : X) (y : Y) (f : ℕ → X) (k : ℕ → Y) (gs : List ℕ) →
      ((g : ℕ) → same x (f g) ≡ alike y (k g)) →
      times same x (map f gs) ≡ times alike y (map k gs)
  times-told x y f k [] h = refl
  times-told x y f k (g ∷ gs) h = ap₂ (λ b n. cond b 1 0 + n) (h g) (times-told x y f k gs h)

  all-told : (p : X → Bool) (q : Y → Bool) (f : ℕ → X) (k : ℕ → Y) (gs : List ℕ) →
      ((g : ℕ) → p (f g) ≡ q (k g)) → list_all p (map f gs) ≡ list_all q (map k gs)
  all-told p q f k [] h = refl
  all-told p q f k (g ∷ gs) h = ap₂ (λ a b. a && b) (h g) (all-told p q f k gs h)

  module _ (f f' : ℕ → X) (k k' : ℕ → Y) (gs hs : List ℕ)
      (first : (g h : ℕ) → same (f g) (f h) ≡ alike (k g) (k h))
      (across : (g h : ℕ) → same (f g) (f' h) ≡ alike (k g) (k' h))
      (back : (g h : ℕ) → same (f' g) (f h) ≡ alike (k' g) (k h))
      (second : (g h : ℕ) → same (f' g) (f' h) ≡ alike (k' g) (k' h)) where
    abbrev as_often : X → Bool
    as_often x = eqb (times same x (map f gs)) (times same x (map f' hs))

    abbrev as_often_told : Y → Bool
    as_often_told y = eqb (times alike y (map k gs)) (times alike y (map k' hs))

    pub multisets-told : same_times same (map f gs) (map f' hs)
        ≡ same_times alike (map k gs) (map k' hs)
    multisets-told =
        list_all-append as_often (map f gs) (map f' hs)
        ∙ ap₂ (λ a b. a && b) (all-told as_often as_often_told f k gs (λ g. ap₂ eqb
        (times-told (f g) (k g) f k gs (first g)) (times-told (f g) (k g) f' k' hs (across g))))
        (all-told as_often as_often_told f' k' hs (λ g. ap₂ eqb
        (times-told (f' g) (k' g) f k gs (back g)) (times-told (f' g) (k' g) f' k' hs (second g))))
        ∙ sym (list_all-append as_often_told (map k gs) (map k' hs))

-- sorted lists are equal exactly where what they were sorted from is one multiset
sorted-tell : (xs ys a b : List KeyGroup) → IsPermutation xs a → IsPermutation ys b →
    IsSortedByKey (λ group. group) group_order a → IsSortedByKey (λ group. group) group_order b →
    is_eq (slice_cmp group_order a b) ≡ same_times alike xs ys
sorted-tell xs ys a b moved moved' rise rise' = equal-tests _ _ there back
  where
    there : is_eq (slice_cmp group_order a b) ≡ true → same_times alike xs ys ≡ true
    there e =
        let same = tells_apart groups-exact a b e in
        all-from (λ k. eqb (times alike k xs) (times alike k ys)) (xs ++ ys)
        (λ k m. eq-eqb _ _ (sym (times-moved alike k xs a moved) ∙ ap (times alike k) same
        ∙ times-moved alike k ys b moved'))

    in-order : (l : List KeyGroup) → IsSortedByKey (λ group. group) group_order l → InOrder less l
    in-order l up = sorted-in-order less (ranks_by group_total (λ (group : KeyGroup). group)) l up

    back : same_times alike xs ys ≡ true → is_eq (slice_cmp group_order a b) ≡ true
    back e =
        let same : a ≡ b = ordered-same less alike alike-eq alike-self tied a b (in-order a rise)
        (in-order b rise')
        (λ k. times-moved alike k xs a moved ∙ same_times-all alike alike-eq xs ys e k
        ∙ sym (times-moved alike k ys b moved')) in
        subst (λ l. is_eq (slice_cmp group_order a l) ≡ true) same (rw (groups-self a) refl)

-- no order has the colour that stands behind the last one of a key
low-colour : (k : ℕ) (placed : List Placed) → AllByRecursion (λ x. IsOrder x.order) placed →
    (c : ℕ) → has_colour (drop k (map (λ x. x.order) placed)) c ≡ true → c < NO_COLOUR
low-colour zero [] all c h = absurd (clash false h refl)
low-colour (suc k) [] all c h = absurd (clash false h refl)
low-colour (suc k) (x ∷ placed) all c h = low-colour k placed all.1 c h
low-colour zero (x ∷ placed) all c h = elim (either (eqb c x.order.colour)) [
  | inl e ↦ (let same : c ≡ x.order.colour = eqb-true _ _ e in
      let high = all.0.1.1 in omega (arith, high, same))
  | inr e ↦ (let later : has_colour (map (λ x. x.order) placed) c ≡ true = rw e at h in
      low-colour zero placed all.1 c later)
]

module _ (ranked : RankedOrders) (known : IsRanked ranked) (q r : List ℕ) (a b : Key)
    (first : IsLiveKey (record { ranked = ranked; path = q }) a)
    (second : IsLiveKey (record { ranked = ranked; path = r }) b) where
  abbrev orders : List Order
  orders = orders_of ranked

  abbrev rest : List Order
  rest = later_orders orders q

  abbrev numbers : List ℕ → List ℕ
  numbers path = filter (has_live ranked.mill orders path) (below (next_new path))

  -- a group of a path as the orders behind the first path see it, and its key
  abbrev seen : List ℕ → ℕ → LiveGroup
  seen path g = seen_from rest (slab g path orders)

  abbrev kept : List ℕ → ℕ → KeyGroup
  kept path g = key_group first.coming (slab g path orders)

  low : (c : ℕ) → has_colour rest c ≡ true → c < NO_COLOUR
  low = low-colour (length q) ranked.placed (each-order ranked known)

  tell : (p s : List ℕ) (g h : ℕ) → same_group (seen p g) (seen s h)
      ≡ alike (kept p g) (kept s h)
  tell p s g h =
      seen-alike rest first.coming low first.rising (slab g p orders) (slab h s orders)

  -- where as many orders are placed, the same are still to come
  groups-tell : length q ≡ length r → is_eq (slice_cmp group_order a.groups b.groups)
      ≡ same_times same_group (live_groups ranked.mill orders q) (live_groups ranked.mill orders r)
  groups-tell even =
      sorted-tell _ _ a.groups b.groups first.groups moved first.sorted second.sorted
      ∙ sym (multisets-told same_group alike (seen q) (seen r) (kept q) (kept r) (numbers q)
      (numbers r) (tell q q) (tell q r) (tell r q) (tell r r))
      ∙ ap (λ l. same_times same_group (map (seen q) (numbers q))
      (map (λ g. seen_from l (slab g r orders)) (numbers r))) later
    where
      later : rest ≡ later_orders orders r
      later = ap (λ n. drop n orders) even

      rising : IsRisingListOf (map (λ order. order.colour) rest) second.coming
      rising =
          subst (λ l. IsRisingListOf (map (λ order. order.colour) l) second.coming) (sym later)
          second.rising

      one : second.coming ≡ first.coming
      one =
          same_rising second.coming first.coming rising.rise first.rising.rise
          (λ n c. first.rising.kept n (rising.only n c))
          (λ n c. rising.kept n (first.rising.only n c))

      moved : IsPermutation (map (kept r) (numbers r)) b.groups
      moved =
          subst (λ coming. IsPermutation
          (map (λ g. key_group coming (slab g r orders)) (numbers r)) b.groups) one
          second.groups

  pub keys-tell : same_key a b ≡ same_live_key ranked.mill orders q r
  keys-tell = elim (either (eqb (length q) (length r))) [
    | inl e ↦ (let even : length q ≡ length r = eqb-true _ _ e in
        let depths : nat_cmp a.depth b.depth ≡ Equal =
        subst (λ n. nat_cmp a.depth n ≡ Equal) (first.depth ∙ even ∙ sym second.depth)
        (number-self a.depth) in
        rw (depths, e) (groups-tell even))
    | inr e ↦ rw e (uneven e)
  ]
    where
      uneven : eqb (length q) (length r) ≡ false → same_key a b ≡ false
      uneven e = elim (either (same_key a b)) [
        | inl t ↦ absurd (clash (eqb (length q) (length r)) (eq-eqb _ _ (sym first.depth
            ∙ ap (λ k. k.depth) (same-key-is-equal a b t) ∙ second.depth)) e)
        | inr f ↦ f
      ]

pub equal-keys-are-same-live-keys : EqualKeysAreSameLiveKeys
equal-keys-are-same-live-keys ranked q r a b known first second =
    keys-tell ranked known q r a b first second
