-- Keys: two groups have one exactly where the later orders see them alike, and two paths have the
-- same live groups exactly where their keys in order are the same. For the second: a sort leaves
-- each key as often as it was, keys stand in a total order in which only equal ones tie, and lists
-- in one order that have each thing as often are one list.
use Rattle.std.proofs.Common.{ℕ, zero, suc, ◌+◌, ◌<◌, ◌≡◌, ◌≢◌, ◌||◌, drop, Bool, true, false, cond}
use Rattle.std.proofs.Common.{not, ◌&&◌, List, [], ◌∷◌, ◌++◌, map, length, get_or, eqb, eqb-true}
use Rattle.std.proofs.Common.{eq-eqb, refl, sym, ap, ap₂, ◌∙◌, subst, arith, inl, inr, All}
use Rattle.std.proofs.Common.{Ordering, Less, Equal, Greater}
use Rattle.std.specs.Cmp.Lexicographic.{slice_cmp}
use Rattle.std.specs.Ordering.{nat_cmp, ordering_then, ordering_reverse, is_lt}
use Rattle.std.specs.Cmp.{IsTotalOrder}
use Rattle.std.specs.List.{list_all}
use Rattle.std.specs.List.Sorted.{IsSortedByKey}
use Rattle.std.proofs.lemmas.Cmp.{nat_cmp_total, nat_list_cmp_total, then_total, on_total}
use Rattle.std.proofs.lemmas.List.MinMax.{ranks_by}
use Rattle.std.proofs.lemmas.List.Sorted.{sorted_far, IsPermutation-map}
use Rattle.std.proofs.lemmas.Map.Lookups.{exact_unsigned, exact_bytes}
use Rattle.mill_model.specs.Instance.{IsOrder}
use Rattle.list_laws.specs.Sets.{holds, times, same_list, same_times}
use Rattle.mill_model.specs.Slab.{Mill}
use Rattle.mill_model.specs.LiveKey.{has_colour, same_marks}
use Rattle.mill_model.specs.declared.order.Order.{Order}
use Rattle.list_laws.proofs.Tests.{either, and-left, and-right, equal-tests}
use Rattle.list_laws.proofs.Times.{same_list-refl, same_list-eq, same_times-all}
use Rattle.list_laws.proofs.Among.{Among-unmap, all-from}
use Rattle.mill_laws.proofs.Mated.{same_marks-refl}
use Rattle.log_checker.specs.Groups.{Seen, nothing_seen}
use Rattle.log_checker.specs.Live.{marks, same_seen, picked, each_as_often, same_live_seen}
use Rattle.log_checker.specs.Keys.{key_order, key_in, group_in, comes_in, IsKey, AreSorted}
use Rattle.log_checker.specs.Keys.{same_key, same_keys}
use Rattle.least_slacks.specs.declared.key.Key.{Key}
use Rattle.log_checker.specs.declared.keys.LiveGroup.{LiveGroup}
use Rattle.log_checker.proofs.ComingColours.{coming-same, same-coming}
use Rattle.log_checker.proofs.LiveGroups.{both-ways}
use Rattle.list_laws.proofs.InOrder.{InOrder, in-order-from, ordered-same, times-moved}

-- the later orders see the same of two groups exactly where the same colours come again
alike : (p q : ℕ → Bool) (rest : List Order) → same_marks (map (λ o. p o.colour) rest)
    (map (λ o. q o.colour) rest) ≡ true → (c : ℕ) →
    (p c && has_colour rest c) ≡ (q c && has_colour rest c)
alike p q [] h c = cut (p c) (q c)
  where
    cut : (a b : Bool) → (a && false) ≡ (b && false)
    cut true true = refl
    cut true false = refl
    cut false true = refl
    cut false false = refl
alike p q (o ∷ rest) h c =
    let ih = alike p q rest (and-right (cond (p o.colour) (q o.colour) (not (q o.colour))) _ h) c in
    let s : p o.colour ≡ q o.colour = same (p o.colour) (q o.colour)
    (and-left _ (same_marks (map (λ o. p o.colour) rest) (map (λ o. q o.colour) rest)) h) in
    elim (either (eqb c o.colour)) [
      | inl e ↦ (let f : c ≡ o.colour = eqb-true c o.colour e in
          rw (f, s) refl)
      | inr e ↦ rw e ih
    ]
  where
    same : (a b : Bool) → cond a b (not b) ≡ true → a ≡ b
    same true b h = sym h
    same false true h = h
    same false false h = refl

alike-from : (p q : ℕ → Bool) (rest : List Order) →
    ((c : ℕ) → has_colour rest c ≡ true → p c ≡ q c) →
    map (λ o. p o.colour) rest ≡ map (λ o. q o.colour) rest
alike-from p q [] h = refl
alike-from p q (o ∷ rest) h =
    ap₂ (λ a b. a ∷ b) (h o.colour (rw (eq-eqb o.colour o.colour refl) refl))
    (alike-from p q rest (λ c k. h c (later (eqb c o.colour) (has_colour rest c) k)))
  where
    later : (a b : Bool) → b ≡ true → (a || b) ≡ true
    later true b k = refl
    later false b k = k

pub key-same : (rest : List Order) (a b : Seen) (x y : Key) → All (λ o. o.colour < 65535) rest →
    IsKey rest a x → IsKey rest b y → same_seen rest a b ≡ same_key x y
key-same rest a b x y low s t =
    ap₂ (λ u v. u && v)
    (ap₂ (λ u v. u && v) (ap₂ (λ m n. eqb m n) (sym s.weighs) (sym t.weighs))
    (ap₂ (λ m n. eqb m n) (sym s.counts) (sym t.counts)))
    (equal-tests (same_marks (marks rest a) (marks rest b)) (same_list x.coming y.coming) there
    back)
  where
    there : same_marks (marks rest a) (marks rest b) ≡ true → same_list x.coming y.coming ≡ true
    there h =
        let e : x.coming ≡ y.coming =
        coming-same (comes_in rest a) (comes_in rest b) x.coming y.coming s.coming t.coming
        (λ c l. alike (λ c. holds c a.colours) (λ c. holds c b.colours) rest h c) in
        rw e (same_list-refl y.coming)

    back : same_list x.coming y.coming ≡ true → same_marks (marks rest a) (marks rest b) ≡ true
    back h =
        let e : x.coming ≡ y.coming = same_list-eq x.coming y.coming h in
        let m : marks rest a ≡ marks rest b =
        alike-from (λ c. holds c a.colours) (λ c. holds c b.colours) rest (λ c k.
        (let w : (holds c a.colours && has_colour rest c) ≡ (holds c b.colours
        && has_colour rest c) =
        same-coming (comes_in rest a) (comes_in rest b) x.coming y.coming s.coming t.coming e c
        (under c rest low k) in
        plain (holds c a.colours) (holds c b.colours) (has_colour rest c) k w)) in
        rw m (same_marks-refl (marks rest b))
      where
        plain : (u v w : Bool) → w ≡ true → (u && w) ≡ (v && w) → u ≡ v
        plain true true w k h = refl
        plain true false w k h = sym k ∙ h
        plain false true w k h = h ∙ k
        plain false false w k h = refl

        under : (c : ℕ) (rest : List Order) → All (λ o. o.colour < 65535) rest →
            has_colour rest c ≡ true → c < 65535
        under c [] low k = absurd (grind arith)
        under c (o ∷ rest) low k = elim (either (eqb c o.colour)) [
          | inl e ↦ (let f : c ≡ o.colour = eqb-true c o.colour e in rw f (low 0 o (omega arith)))
          | inr e ↦ under c rest (λ i d l. low (suc i) d (omega arith)) (rw e at k)
        ]

-- keys are in a total order, and only equal ones are tied
then-equal : (a b : Ordering) → ordering_then a b ≡ Equal → (a ≡ Equal) × (b ≡ Equal)
then-equal Less b e = absurd (never (ap is_lt e))
  where
    never : true ≡ false → ⊥
    never h = grind arith
then-equal Equal b e = (refl, e)
then-equal Greater b e = absurd (never (ap flip e))
  where
    flip : Ordering → Bool
    flip Less = false
    flip Equal = false
    flip Greater = true

    never : true ≡ false → ⊥
    never h = grind arith

order-total : IsTotalOrder key_order
order-total =
    then_total (on_total (λ k. k.coming) nat_list_cmp_total) (then_total (on_total (λ k. k.colours)
    nat_cmp_total) (on_total (λ k. k.load) nat_cmp_total))

order-exact : (a b : Key) → key_order a b ≡ Equal → a ≡ b
order-exact a b e =
    let s = then-equal (slice_cmp nat_cmp a.coming b.coming) _ e in
    let t = then-equal (nat_cmp a.colours b.colours) _ s.1 in
    let l : a.load ≡ b.load = exact_unsigned a.load b.load t.1 in
    let c : a.colours ≡ b.colours = exact_unsigned a.colours b.colours t.0 in
    let m : a.coming ≡ b.coming = exact_bytes a.coming b.coming s.0 in
    λ i. record { load = l i; colours = c i; coming = m i }

abbrev key_less : Key → Key → Bool
key_less a b = is_lt (key_order a b)

order-tied : (a b : Key) → key_less a b ≡ false → key_less b a ≡ false → a ≡ b
order-tied a b h k =
    order-exact a b (go (key_order a b) (key_order b a) (order-total.antisymm a b) h k)
  where
    go : (r s : Ordering) → r ≡ ordering_reverse s → is_lt r ≡ false → is_lt s ≡ false → r ≡ Equal
    go Less s e h k = absurd (grind arith)
    go Equal s e h k = refl
    go Greater Less e h k = absurd (grind arith)
    go Greater Equal e h k = e
    go Greater Greater e h k = absurd (never (ap is_lt e))
      where
        never : false ≡ true → ⊥
        never h = grind arith

key-eq : (a b : Key) → same_key a b ≡ true → a ≡ b
key-eq a b h =
    let counts = and-left (eqb a.load b.load && eqb a.colours b.colours) _ h in
    let l : a.load ≡ b.load = eqb-true _ _ (and-left (eqb a.load b.load) _ counts) in
    let c : a.colours ≡ b.colours = eqb-true _ _ (and-right (eqb a.load b.load) _ counts) in
    let m : a.coming ≡ b.coming =
    same_list-eq a.coming b.coming
    (and-right (eqb a.load b.load && eqb a.colours b.colours) _ h) in
    λ i. record { load = l i; colours = c i; coming = m i }

key-self : (a : Key) → same_key a a ≡ true
key-self a =
    rw (eq-eqb a.load a.load refl, eq-eqb a.colours a.colours refl) (same_list-refl a.coming)

in-order-map : {X Y : Type 0} (less : Y → Y → Bool) (f : X → Y) (xs : List X) →
    InOrder (λ a b. less (f a) (f b)) xs → InOrder less (map f xs)
in-order-map less f [] h = tt
in-order-map less f (x ∷ xs) h = (
  λ y m. (let u = Among-unmap f y xs m in subst (λ z. less z (f x) ≡ false) (sym u.2)
      (h.0 u.0 u.1)),
  in-order-map less f xs h.1,
)

keys-order : (live : List LiveGroup) → IsSortedByKey key_in key_order live →
    InOrder key_less (map key_in live)
keys-order live s =
    in-order-map key_less key_in live (in-order-from (λ a b. key_less (key_in a) (key_in b)) live
    (λ i j d a b. sorted_far (λ x y. is_lt (key_order (key_in x) (key_in y)))
    (ranks_by order-total key_in) live s i j d a b))

-- the same keys in order
keys-equal : (xs ys : List LiveGroup) → same_keys xs ys ≡ true → map key_in xs ≡ map key_in ys
keys-equal [] [] h = refl
keys-equal [] (y ∷ ys) h = absurd (grind arith)
keys-equal (x ∷ xs) [] h = absurd (grind arith)
keys-equal (x ∷ xs) (y ∷ ys) h =
    ap₂ (λ a b. a ∷ b) (key-eq x.key y.key (and-left _ (same_keys xs ys) h))
    (keys-equal xs ys (and-right (same_key x.key y.key) _ h))

equal-keys : (xs ys : List LiveGroup) → map key_in xs ≡ map key_in ys → same_keys xs ys ≡ true
equal-keys [] [] e = refl
equal-keys [] (y ∷ ys) e = absurd (never _ (ap length e))
  where
    never : (n : ℕ) → 0 ≡ suc n → ⊥
    never n h = omega arith
equal-keys (x ∷ xs) [] e = absurd (never _ (ap length e))
  where
    never : (n : ℕ) → suc n ≡ 0 → ⊥
    never n h = omega arith
equal-keys (x ∷ xs) (y ∷ ys) e =
    let h : x.key ≡ y.key = ap (λ l. get_or l 0 x.key) e in
    rw (h, key-self y.key) (equal-keys xs ys (ap (drop 1) e))

pub uneven : (xs ys : List LiveGroup) → length xs ≢ length ys → same_keys xs ys ≡ false
uneven [] [] h = absurd (h refl)
uneven [] (y ∷ ys) h = refl
uneven (x ∷ xs) [] h = refl
uneven (x ∷ xs) (y ∷ ys) h =
    no (same_key x.key y.key) (same_keys xs ys) (uneven xs ys (λ e. h (ap suc e)))
  where
    no : (a b : Bool) → b ≡ false → (a && b) ≡ false
    no true b e = e
    no false b e = refl

-- no order has the colour that stands behind the last one of a key
pub low-from : (k : ℕ) (ranked : List Order) → All IsOrder ranked →
    All (λ o. o.colour < 65535) (drop k ranked)
low-from zero ranked h = λ i d l. omega (arith, (h i d l).1.1)
low-from (suc k) [] h = λ i d l. absurd (omega arith)
low-from (suc k) (o ∷ ranked) h = low-from k ranked (λ i d l. h (suc i) d (omega arith))

module _ (rest : List Order) (low : All (λ o. o.colour < 65535) rest) where
  times-keys : (groups : List Seen) (live : List LiveGroup) →
      All (λ l. IsKey rest (get_or groups l.group nothing_seen) l.key) live → (x : Seen) (k : Key) →
      IsKey rest x k → times (same_seen rest) x (picked groups (map group_in live))
      ≡ times same_key k (map key_in live)
  times-keys groups [] h x k is = refl
  times-keys groups (l ∷ live) h x k is =
      ap₂ (λ b n. cond b 1 0 + n)
      (key-same rest x (get_or groups l.group nothing_seen) k l.key low is (h 0 l (omega arith)))
      (times-keys groups live (λ i d m. h (suc i) d (omega arith)) x k is)

  each-keys : (groups first second : List Seen) (live a b : List LiveGroup) →
      All (λ l. IsKey rest (get_or groups l.group nothing_seen) l.key) live →
      All (λ l. IsKey rest (get_or first l.group nothing_seen) l.key) a →
      All (λ l. IsKey rest (get_or second l.group nothing_seen) l.key) b →
      each_as_often rest (picked groups (map group_in live)) (picked first (map group_in a))
      (picked second (map group_in b)) ≡ list_all (λ k. eqb (times same_key k (map key_in a))
      (times same_key k (map key_in b))) (map key_in live)
  each-keys groups first second [] a b h s t = refl
  each-keys groups first second (l ∷ live) a b h s t =
      let is = h 0 l (omega arith) in
      ap₂ (λ u v. u && v) (ap₂ (λ m n. eqb m n)
      (times-keys first a s (get_or groups l.group nothing_seen) l.key is)
      (times-keys second b t (get_or groups l.group nothing_seen) l.key is))
      (each-keys groups first second live a b (λ i d m. h (suc i) d (omega arith)) s t)

  pub keys-decide : (mill : Mill) (first second : List Seen) (a b : List LiveGroup) →
      AreSorted mill rest first a → AreSorted mill rest second b →
      same_keys a b ≡ same_live_seen mill rest first second
  keys-decide mill first second a b s t =
      let p = s.plain in
      let q = t.plain in
      let x : same_live_seen mill rest first second
      ≡ (each_as_often rest (picked first (map group_in p)) (picked first (map group_in p))
      (picked second (map group_in q)) && each_as_often rest (picked second (map group_in q))
      (picked first (map group_in p)) (picked second (map group_in q))) =
      ap₂ (λ u v. each_as_often rest (picked first u) (picked first u) (picked second v)
      && each_as_often rest (picked second v) (picked first u) (picked second v))
      (sym s.live.numbers) (sym t.live.numbers) in
      let y = ap₂ (λ u v. u && v)
      (each-keys first first second p p q s.live.keys s.live.keys t.live.keys)
      (each-keys second first second q p q t.live.keys s.live.keys t.live.keys) in
      equal-tests (same_keys a b) (same_times same_key (map key_in p) (map key_in q)) there back
      ∙ both-ways same_key (map key_in p) (map key_in q) ∙ sym (x ∙ y)
    where
      moved-a : (k : Key) → times same_key k (map key_in a) ≡ times same_key k (map key_in s.plain)
      moved-a k =
          times-moved same_key k (map key_in s.plain) (map key_in a)
          (IsPermutation-map key_in s.plain a s.moved)

      moved-b : (k : Key) → times same_key k (map key_in b) ≡ times same_key k (map key_in t.plain)
      moved-b k =
          times-moved same_key k (map key_in t.plain) (map key_in b)
          (IsPermutation-map key_in t.plain b t.moved)

      there : same_keys a b ≡ true →
          same_times same_key (map key_in s.plain) (map key_in t.plain) ≡ true
      there h =
          all-from (λ k. eqb (times same_key k (map key_in s.plain))
          (times same_key k (map key_in t.plain))) (map key_in s.plain ++ map key_in t.plain)
          (λ k m. eq-eqb _ _ (sym (moved-a k) ∙ ap (times same_key k) (keys-equal a b h)
          ∙ moved-b k))

      back : same_times same_key (map key_in s.plain) (map key_in t.plain) ≡ true →
          same_keys a b ≡ true
      back h =
          equal-keys a b (ordered-same key_less same_key key-eq key-self order-tied (map key_in a)
          (map key_in b) (keys-order a s.rise) (keys-order b t.rise)
          (λ k. moved-a k ∙ same_times-all same_key key-eq (map key_in s.plain)
          (map key_in t.plain) h k ∙ sym (moved-b k)))
