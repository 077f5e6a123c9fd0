-- The lists once an order went to the front of one.
use Rattle.std.proofs.Common.{ℕ, ◌<◌, ◌≡◌, ◌≢◌, Bool, true, false, cond, ◌&&◌, List, [], ◌∷◌}
use Rattle.std.proofs.Common.{length, map, set, get_or, eqb, Option, Some, None, refl, sym, ap}
use Rattle.std.proofs.Common.{◌∙◌, subst, inl, inr, arith, eq-eqb, eqb-true, ne_eqb, false-eqb}
use Rattle.std.specs.Prelude.{IfSome}
use Rattle.std.specs.List.{All}
use Rattle.std.proofs.lemmas.List.{get_or-map, get_or-set_same, get_or-set_other, length-set}
use Rattle.std.proofs.lemmas.List.{length-map}
use Rattle.std.proofs.lemmas.List.Elements.{All-get_or, All-set}
use Rattle.list_laws.specs.Sets.{holds}
use Rattle.list_laws.proofs.Tests.{clash, either, or-cases}
use Rattle.list_laws.specs.Without.{without}
use Rattle.list_laws.proofs.Different.{without-other}
use Rattle.index_links.specs.Lists.{list_at, Apart, moved}
use Rattle.index_links.specs.Links.{look, is_none, is_some, set_at, Chain, IsLinked}
use Rattle.index_links.proofs.LinkedLists.{holds-first, chain-first, first-holds}
use Rattle.index_links.proofs.Relinked.{before-there, next-there, chains-without, chains-with}

-- A list without a number.

pub without-lacks : (o : ℕ) (xs : List ℕ) → holds o (without o xs) ≡ false
without-lacks o [] = refl
without-lacks o (x ∷ xs) = elim (either (eqb o x)) [
  | inl e ↦ rw e (without-lacks o xs)
  | inr f ↦ rw (f, f) (without-lacks o xs)
]

pub unwithout : (z o : ℕ) (xs : List ℕ) → holds z (without o xs) ≡ true → holds z xs ≡ true
unwithout z o xs h = elim (either (eqb z o)) [
  | inl e ↦ absurd (clash (holds z (without o xs)) h
      (subst (λ w. holds w (without o xs) ≡ false) (sym (eqb-true z o e)) (without-lacks o xs)))
  | inr f ↦ sym (without-other z o xs (false-eqb z o (sym f))) ∙ h
]

pub apart-without : (o : ℕ) (xs : List ℕ) → Apart xs → Apart (without o xs)
apart-without o [] a = a
apart-without o (x ∷ xs) a = elim (either (eqb o x)) [
  | inl e ↦ rw e (apart-without o xs a.1)
  | inr f ↦ rw f (lacks, apart-without o xs a.1)
]
  where
    lacks : holds x (without o xs) ≡ false
    lacks = elim (either (holds x (without o xs))) [
      | inl t ↦ absurd (clash (holds x xs) (unwithout x o xs t) a.0)
      | inr g ↦ g
    ]

-- The moved lists.

pub moved-at : (o s t : ℕ) (lists : List (List ℕ)) → s < length lists → t < length lists →
    list_at (moved o s lists) t
    ≡ cond (eqb t s) (o ∷ without o (list_at lists s)) (without o (list_at lists t))
moved-at o s t lists low here = elim (either (eqb t s)) [
  | inl e ↦ rw e (subst (λ r. list_at (moved o s lists) r ≡ o ∷ without o (list_at lists s))
      (sym (eqb-true t s e)) (get_or-set_same (map (without o) lists) s
      (o ∷ without o (list_at lists s)) [] (omega (arith, length-map lists (without o)))))
  | inr f ↦ rw f (get_or-set_other (map (without o) lists) s t
      (o ∷ without o (list_at lists s)) [] (false-eqb t s (sym f))
      ∙ get_or-map (without o) lists t [] [] here)
]

-- The tables.

pub if-some : (m : Option ℕ) (P : ℕ → Type 0) → ((z : ℕ) → m ≡ Some z → P z) → IfSome m P
if-some None P h = tt
if-some (Some x) P h = h x refl

pub look-set : (table : List (Option ℕ)) (i : ℕ) (value : Option ℕ) (z : ℕ) → i < length table →
    look (set table i value) z ≡ cond (eqb z i) value (look table z)
look-set table i value z low = elim (either (eqb z i)) [
  | inl e ↦ rw e (subst (λ y. look (set table i value) y ≡ value) (sym (eqb-true z i e))
      (get_or-set_same table i value None low))
  | inr f ↦ rw f (get_or-set_other table i z value None (false-eqb z i (sym f)))
]

pub look-set_at : (m value : Option ℕ) (table : List (Option ℕ)) (z : ℕ) →
    ((y : ℕ) → m ≡ Some y → y < length table) →
    look (set_at m value table) z ≡ cond (is_some m z) value (look table z)
look-set_at None value table z low = refl
look-set_at (Some i) value table z low = look-set table i value z (low i refl)

pub length-set_at : (m value : Option ℕ) (table : List (Option ℕ)) →
    length (set_at m value table) ≡ length table
length-set_at None value table = refl
length-set_at (Some i) value table = length-set table i value

first-if : (b : Bool) (table : List (Option ℕ)) (t : ℕ) (value : Option ℕ) (z : ℕ) →
    t < length table →
    look (cond b (set table t value) table) z ≡ cond (b && eqb z t) value (look table z)
first-if true table t value z low = look-set table t value z low
first-if false table t value z low = refl

length-if : (b : Bool) (table : List (Option ℕ)) (t : ℕ) (value : Option ℕ) →
    length (cond b (set table t value) table) ≡ length table
length-if true table t value = length-set table t value
length-if false table t value = refl

module _ (firsts nexts previous : List (Option ℕ)) (slabs : List ℕ) (lists : List (List ℕ))
    (is : IsLinked firsts nexts previous slabs lists) (o s : ℕ) (order : o < length nexts)
    (slab : s < length nexts) where
  abbrev n : ℕ
  n = length nexts

  -- the slab that the order leaves
  abbrev t : ℕ
  t = get_or slabs o 0

  pub left-low : t < n
  left-low =
      All-get_or (λ z. z < n) slabs o 0 (omega (arith, order, is.slabs_count)) is.slabs_below

  there : holds o (list_at lists t) ≡ true
  there = is.slab_is t o left-low order ∙ eq-eqb t t refl

  one : (r q z : ℕ) → r < n → q < n → holds z (list_at lists r) ≡ true →
      holds z (list_at lists q) ≡ true → r ≡ q
  one r q z low high h k =
      let here : z < n = is.orders r z low h in
      eqb-true r (get_or slabs z 0) (sym (is.slab_is r z low here) ∙ h)
      ∙ sym (eqb-true q (get_or slabs z 0) (sym (is.slab_is q z high here) ∙ k))

  pub next-low : (z : ℕ) → look nexts o ≡ Some z → z < n
  next-low z e =
      is.orders t z left-low
      (next-there n firsts nexts previous (list_at lists) is.chained is.apart one
      o t left-low there z e)

  pub before-low : (z : ℕ) → look previous o ≡ Some z → z < n
  before-low z e =
      is.orders t z left-low
      (before-there n firsts nexts previous (list_at lists) is.chained is.apart one
      o t left-low there z e)

  -- the tables without the order
  abbrev firsts1 : List (Option ℕ)
  firsts1 = cond (is_none (look previous o)) (set firsts t (look nexts o)) firsts

  abbrev nexts1 : List (Option ℕ)
  nexts1 = set_at (look previous o) (look nexts o) nexts

  abbrev previous1 : List (Option ℕ)
  previous1 = set_at (look nexts o) (look previous o) previous

  abbrev lists1 : ℕ → List ℕ
  lists1 r = without o (list_at lists r)

  chained1 : (r : ℕ) → r < n → Chain nexts1 previous1 None (look firsts1 r) (lists1 r)
  chained1 =
      chains-without n firsts nexts previous (list_at lists) is.chained is.apart one o t left-low
      there firsts1 nexts1 previous1
      (λ r. first-if (is_none (look previous o)) firsts t (look nexts o) r
      (omega (arith, left-low, is.firsts_count)))
      (λ z. look-set_at (look previous o) (look nexts o) nexts z before-low)
      (λ z. look-set_at (look nexts o) (look previous o) previous z
      (λ y e. let low = next-low y e in omega (arith, low, is.previous_count)))

  pub first-low : (z : ℕ) → look firsts1 s ≡ Some z → z < n
  first-low z e =
      is.orders s z slab
      (unwithout z o (list_at lists s) (first-holds (lists1 s) z
      (sym (chain-first nexts1 previous1 None (look firsts1 s) (lists1 s) (chained1 s slab)) ∙ e)))

  pub lengths1 : (length firsts1 ≡ n) × (length nexts1 ≡ n) × (length previous1 ≡ n)
  lengths1 = (
    length-if (is_none (look previous o)) firsts t (look nexts o) ∙ is.firsts_count,
    length-set_at (look previous o) (look nexts o) nexts,
    length-set_at (look nexts o) (look previous o) previous ∙ is.previous_count,
  )

  -- the tables with the order put first
  abbrev firsts2 : List (Option ℕ)
  firsts2 = set firsts1 s (Some o)

  abbrev nexts2 : List (Option ℕ)
  nexts2 = set nexts1 o (look firsts1 s)

  abbrev previous2 : List (Option ℕ)
  previous2 = set (set_at (look firsts1 s) (Some o) previous1) o None

  chained2 : (r : ℕ) → r < n → Chain nexts2 previous2 None (look firsts2 r)
      (cond (eqb r s) (o ∷ lists1 s) (lists1 r))
  chained2 =
      chains-with n firsts1 nexts1 previous1 lists1 chained1
      (λ r low. apart-without o (list_at lists r) (is.apart r low))
      (λ r q z low high h k. one r q z low high (unwithout z o (list_at lists r) h)
      (unwithout z o (list_at lists q) k)) o s slab
      (λ r low. without-lacks o (list_at lists r)) firsts2 nexts2 previous2
      (λ r. look-set firsts1 s (Some o) r (omega (arith, slab, lengths1.0)))
      (λ z. look-set nexts1 o (look firsts1 s) z (omega (arith, order, lengths1.1)))
      (λ z. look-set (set_at (look firsts1 s) (Some o) previous1) o None z
      (omega (arith, order, lengths1.2, length-set_at (look firsts1 s) (Some o) previous1))
      ∙ ap (λ v. cond (eqb z o) None v) (look-set_at (look firsts1 s) (Some o) previous1 z
      (λ y e. let low = first-low y e in omega (arith, low, lengths1.2))))

  lists-long : length lists ≡ n
  lists-long = is.lists_count

  at : (r : ℕ) → r < n →
      list_at (moved o s lists) r ≡ cond (eqb r s) (o ∷ lists1 s) (lists1 r)
  at r low =
      moved-at o s r lists (omega (arith, slab, lists-long)) (omega (arith, low, lists-long))

  moved-apart : (r : ℕ) → r < n → Apart (cond (eqb r s) (o ∷ lists1 s) (lists1 r))
  moved-apart r low = elim (either (eqb r s)) [
    | inl e ↦ rw e (
      without-lacks o (list_at lists s),
      apart-without o (list_at lists s) (is.apart s slab),
    )
    | inr f ↦ rw f (apart-without o (list_at lists r) (is.apart r low))
  ]

  moved-orders : (r z : ℕ) → r < n →
      holds z (cond (eqb r s) (o ∷ lists1 s) (lists1 r)) ≡ true → z < n
  moved-orders r z low h = elim (either (eqb r s)) [
    | inl e ↦ elim (or-cases (eqb z o) (holds z (lists1 s)) (rw e at h)) [
      | inl same ↦ subst (λ y. y < n) (sym (eqb-true z o same)) order
      | inr i ↦ is.orders s z slab (unwithout z o (list_at lists s) i)
    ]
    | inr f ↦ is.orders r z low (unwithout z o (list_at lists r) (rw f at h))
  ]

  moved-slab : (r z : ℕ) → r < n → z < n →
      holds z (cond (eqb r s) (o ∷ lists1 s) (lists1 r)) ≡ eqb r (get_or (set slabs o s) z 0)
  moved-slab r z low here = elim (either (eqb z o)) [
    | inl e ↦ (let same : z ≡ o = eqb-true z o e in
        subst (λ y. holds y (cond (eqb r s) (o ∷ lists1 s) (lists1 r))
        ≡ eqb r (get_or (set slabs o s) y 0)) (sym same)
        (rw (get_or-set_same slabs o s 0 (omega (arith, order, is.slabs_count)))
        (of-order r)))
    | inr f ↦ (let k : z ≢ o = false-eqb z o (sym f) in
        rw (get_or-set_other slabs o z s 0 k) (of-other r k low))
  ]
    where
      of-order : (r : ℕ) → holds o (cond (eqb r s) (o ∷ lists1 s) (lists1 r)) ≡ eqb r s
      of-order r = elim (either (eqb r s)) [
        | inl e ↦ rw e (holds-first o (lists1 s))
        | inr f ↦ rw f (without-lacks o (list_at lists r))
      ]

      of-other : (r : ℕ) → z ≢ o → r < n →
          holds z (cond (eqb r s) (o ∷ lists1 s) (lists1 r)) ≡ eqb r (get_or slabs z 0)
      of-other r k low = elim (either (eqb r s)) [
        | inl e ↦ rw (e, ne_eqb z o k) (without-other z o (list_at lists s) k
            ∙ is.slab_is s z slab here ∙ ap (λ q. eqb q (get_or slabs z 0)) (sym (eqb-true r s e)))
        | inr f ↦ rw f (without-other z o (list_at lists r) k ∙ is.slab_is r z low here)
      ]

  long : length nexts2 ≡ n
  long = length-set nexts1 o (look firsts1 s) ∙ lengths1.1

  pub linked-moved : IsLinked firsts2 nexts2 previous2 (set slabs o s) (moved o s lists)
  linked-moved = record {
    few = omega (arith, long, is.few);
    firsts_count = length-set firsts1 s (Some o) ∙ lengths1.0 ∙ sym long;
    previous_count =
        length-set (set_at (look firsts1 s) (Some o) previous1) o None
        ∙ length-set_at (look firsts1 s) (Some o) previous1 ∙ lengths1.2 ∙ sym long;
    slabs_count = length-set slabs o s ∙ is.slabs_count ∙ sym long;
    lists_count =
        length-set (map (without o) lists) s (o ∷ without o (list_at lists s))
        ∙ length-map lists (without o) ∙ is.lists_count ∙ sym long;
    slabs_below =
        subst (λ m. All (λ z. z < m) (set slabs o s)) (sym long)
        (All-set (λ z. z < n) slabs o s slab is.slabs_below);
    chained = λ r l. (let low : r < n = omega (arith, l, long) in
        subst (λ xs. Chain nexts2 previous2 None (look firsts2 r) xs) (sym (at r low))
        (chained2 r low));
    apart = λ r l. (let low : r < n = omega (arith, l, long) in
        subst (λ xs. Apart xs) (sym (at r low)) (moved-apart r low));
    orders = λ r z l h. (let low : r < n = omega (arith, l, long) in
        let here : z < n = moved-orders r z low (subst (λ xs. holds z xs ≡ true) (at r low) h) in
        omega (arith, here, long));
    slab_is = λ r z l k. (let low : r < n = omega (arith, l, long) in
        let here : z < n = omega (arith, k, long) in
        ap (holds z) (at r low) ∙ moved-slab r z low here);
  }

-- the same for tables that are told by equations
pub relinked : (firsts nexts previous : List (Option ℕ)) (slabs : List ℕ) (lists : List (List ℕ))
    (o s left : ℕ) (f1 n1 p1 f2 n2 p2 : List (Option ℕ)) (slabs2 : List ℕ) →
    IsLinked firsts nexts previous slabs lists → o < length nexts → s < length nexts →
    left ≡ get_or slabs o 0 →
    f1 ≡ cond (is_none (look previous o)) (set firsts left (look nexts o)) firsts →
    n1 ≡ set_at (look previous o) (look nexts o) nexts →
    p1 ≡ set_at (look nexts o) (look previous o) previous →
    f2 ≡ set f1 s (Some o) → n2 ≡ set n1 o (look f1 s) →
    p2 ≡ set (set_at (look f1 s) (Some o) p1) o None → slabs2 ≡ set slabs o s →
    IsLinked f2 n2 p2 slabs2 (moved o s lists)
relinked firsts nexts previous slabs lists o s left f1 n1 p1 f2 n2 p2 slabs2 is order slab
    at ef1 en1 ep1 ef2 en2 ep2 es =
    rw (ef2, en2, ep2, es, ef1, en1, ep1, at)
    (linked-moved firsts nexts previous slabs lists is o s order slab)

-- the first order of a slab once an order left its list
pub first-within : (firsts nexts previous : List (Option ℕ)) (slabs : List ℕ)
    (lists : List (List ℕ)) (o s left : ℕ) (f1 n1 : List (Option ℕ)) →
    IsLinked firsts nexts previous slabs lists → o < length nexts → s < length nexts →
    left ≡ get_or slabs o 0 →
    f1 ≡ cond (is_none (look previous o)) (set firsts left (look nexts o)) firsts →
    n1 ≡ set_at (look previous o) (look nexts o) nexts →
    (z : ℕ) → look f1 s ≡ Some z → z < length n1
first-within firsts nexts previous slabs lists o s left f1 n1 is order slab at ef1 en1 z e =
    let f1-is : f1 ≡ cond (is_none (look previous o)) (set firsts (get_or slabs o 0)
    (look nexts o)) firsts =
    ef1 ∙ ap (λ l. cond (is_none (look previous o)) (set firsts l (look nexts o)) firsts) at in
    let low = first-low firsts nexts previous slabs lists is o s order slab z
    (subst (λ f. look f s ≡ Some z) f1-is e) in
    omega (arith, low, ap length en1, length-set_at (look previous o) (look nexts o) nexts)
