-- What lists of slabs tell of their orders: each is in one list, so the lists of two slabs have
-- together the places of these slabs, each once.
use Rattle.std.proofs.Common.{ℕ, zero, suc, ◌+◌, ◌<◌, ◌≤◌, ◌≡◌, ◌≢◌, Bool, true, false, cond}
use Rattle.std.proofs.Common.{List, [], ◌∷◌, ◌++◌, length, get_or, eqb, Some, None, refl}
use Rattle.std.proofs.Common.{sym, ap, ap₂, ◌∙◌, arith, subst, inl, inr, eqb-true, eq-eqb, ne_eqb}
use Rattle.std.proofs.Common.{Option, false-eqb, ◌-◌, take, set, append_assoc}
use Rattle.std.specs.List.{slice_get}
use Rattle.std.specs.Option.{is_some}
use Rattle.std.proofs.lemmas.List.{get_or-map, length-map, take_more_set}
use Rattle.std.proofs.Math.Seq.{take-suc}
use Rattle.std.proofs.lemmas.Option.{slice_get-get_or, slice_get_within, get_or_from_slice_get}
use Rattle.std.proofs.lemmas.Bool.{cases_lt}
use Rattle.mill_model.specs.Pairs.{one_of}
use Rattle.list_laws.specs.Sets.{holds, below, times, SameTimes}
use Rattle.list_laws.proofs.Tests.{clash, either, or-cases}
use Rattle.list_laws.proofs.Different.{different-bounded, holds-append}
use Rattle.list_laws.proofs.Lists.{length-below}
use Rattle.list_laws.proofs.Times.{times-append}
use Rattle.index_links.specs.Lists.{AreSlabLists, Apart, after, list_at, places_where, plan_of}
use Rattle.index_links.specs.Lists.{slab_in}
use Rattle.index_links.proofs.LinkedLists.{holds-first, holds-rest}
use Rattle.index_links.proofs.Made.{places-apart, places-at, places-high}
use Rattle.index_links.proofs.Views.{apart-different, get_or-below}

-- Lists without repeats.

pub get-holds : (xs : List ℕ) (k o : ℕ) → slice_get xs k ≡ Some o → holds o xs ≡ true
get-holds [] k o e = absurd (cc)
get-holds (x ∷ xs) zero o e =
    let same : x ≡ o = cc in subst (λ w. holds w (x ∷ xs) ≡ true) same (holds-first x xs)
get-holds (x ∷ xs) (suc k) o e = holds-rest o x xs (get-holds xs k o e)

-- behind the number at a place stands the one at the next
pub after-is : (xs : List ℕ) → Apart xs → (k o : ℕ) → slice_get xs k ≡ Some o →
    after o xs ≡ slice_get xs (suc k)
after-is [] a k o e = absurd (cc)
after-is (x ∷ xs) a zero o e = let same : x ≡ o = cc in rw (eq-eqb o x (sym same)) refl
after-is (x ∷ xs) a (suc k) o e = rw (ne_eqb o x other) (after-is xs a.1 k o e)
  where
    other : o ≢ x
    other q = clash (holds o xs) (get-holds xs k o e)
        (subst (λ w. holds w xs ≡ false) (sym q) a.0)

-- a list that is written from a place on, with one number more
pub written-more : (xs places front : List ℕ) (from end o : ℕ) → from ≤ end →
    end < length places → slice_get xs (end - from) ≡ Some o →
    take end places ≡ front ++ take (end - from) xs →
    take (end + 1) (set places end o) ≡ front ++ take (end + 1 - from) xs
written-more xs places front from end o begun room e done =
    let within : end - from < length xs = slice_get_within xs (end - from) o e in
    let next : end + 1 - from ≡ suc (end - from) = omega arith in
    take_more_set places end o room ∙ ap (λ ys. ys ++ o ∷ []) done
    ∙ append_assoc front (take (end - from) xs) (o ∷ [])
    ∙ ap (λ ys. front ++ ys)
    (ap (λ z. take (end - from) xs ++ z ∷ [])
    (sym (get_or_from_slice_get xs (end - from) o 0 e))
    ∙ sym (take-suc xs (end - from) 0 within) ∙ ap (λ k. take k xs) (sym next))

-- a list is at its end where no number stands
pub past-end : (xs : List ℕ) (k : ℕ) → slice_get xs k ≡ None → length xs ≤ k
past-end xs k e = elim (cases_lt k (length xs)) [
  | inl l ↦ (let here = slice_get-get_or xs k 0 l in absurd (cc))
  | inr g ↦ g
]

apart-append : (xs ys : List ℕ) → Apart xs → Apart ys →
    ((z : ℕ) → holds z xs ≡ true → holds z ys ≡ false) → Apart (xs ++ ys)
apart-append [] ys a b h = b
apart-append (x ∷ xs) ys a b h = (
  holds-append x xs ys ∙ rw (a.0, h x (holds-first x xs)) refl,
  apart-append xs ys a.1 b (λ z i. h z (holds-rest z x xs i)),
)

apart-times : (xs : List ℕ) → Apart xs → (z : ℕ) → times eqb z xs ≡ cond (holds z xs) 1 0
apart-times [] a z = refl
apart-times (x ∷ xs) a z = elim (either (eqb z x)) [
  | inl e ↦ (let none : holds z xs ≡ false =
      subst (λ w. holds w xs ≡ false) (sym (eqb-true z x e)) a.0 in
      let zero_times = apart-times xs a.1 z in
      rw (e, zero_times, none) refl)
  | inr f ↦ (let ih = apart-times xs a.1 z in rw f (omega (arith, ih)))
]

empty-by-first : (xs : List ℕ) → slice_get xs 0 ≡ None → xs ≡ []
empty-by-first [] e = refl
empty-by-first (x ∷ xs) e = absurd (cc)

holds-place : (s : ℕ) (xs : List ℕ) → holds s xs ≡ true →
    (k : ℕ) × (k < length xs) × (get_or xs k 0 ≡ s)
holds-place s [] h = absurd (cc)
holds-place s (x ∷ xs) h = elim (or-cases (eqb s x) (holds s xs) h) [
  | inl e ↦ (0, omega arith, sym (eqb-true s x e))
  | inr i ↦ (let r = holds-place s xs i in (suc r.0, omega (arith, r.1), r.2))
]

module _ (lists : List (List ℕ)) where
  pub plan-count : length (plan_of lists) ≡ length lists
  plan-count = length-map (below (length lists)) (slab_in lists) ∙ length-below (length lists)

  pub plan-at : (o : ℕ) → o < length lists → get_or (plan_of lists) o 0 ≡ slab_in lists o
  plan-at o l =
      get_or-map (slab_in lists) (below (length lists)) o 0 0
      (omega (arith, l, length-below (length lists)))
      ∙ ap (slab_in lists) (get_or-below (length lists) o l)

module _ (lists : List (List ℕ)) (are : AreSlabLists lists) where
  -- the order at a place of the list of a slab, and the one behind it
  pub at-place : (s k o : ℕ) → s < length lists → slice_get (list_at lists s) k ≡ Some o →
      (o < length lists)
      × (after o (list_at lists (slab_in lists o)) ≡ slice_get (list_at lists s) (suc k))
  at-place s k o s_in e =
      let there = get-holds (list_at lists s) k o e in
      let o_in = are.orders s o s_in there in
      let here : s ≡ slab_in lists o =
      eqb-true s (slab_in lists o) (sym (are.one_list s o s_in o_in) ∙ there) in (
        o_in,
        subst (λ t. after o (list_at lists t) ≡ slice_get (list_at lists s) (suc k)) here
            (after-is (list_at lists s) (are.once s s_in) k o e),
      )

  -- no order is in the lists of two slabs
  disjoint : (a b z : ℕ) → a < length lists → b < length lists → a ≢ b →
      holds z (list_at lists a) ≡ true → holds z (list_at lists b) ≡ false
  disjoint a b z a_in b_in ne h =
      let z_in = are.orders a z a_in h in
      let here : a ≡ slab_in lists z =
      eqb-true a (slab_in lists z) (sym (are.one_list a z a_in z_in) ∙ h) in
      are.one_list b z b_in z_in ∙ ne_eqb b (slab_in lists z) (λ q. ne (here ∙ sym q))

  both-apart : (a b : ℕ) → a < length lists → b < length lists → a ≢ b →
      Apart (list_at lists a ++ list_at lists b)
  both-apart a b a_in b_in ne =
      apart-append (list_at lists a) (list_at lists b) (are.once a a_in) (are.once b b_in)
      (λ z h. disjoint a b z a_in b_in ne h)

  -- a list is no longer than the orders are many
  pub list-few : (a : ℕ) → a < length lists → length (list_at lists a) ≤ length lists
  list-few a a_in =
      let few = different-bounded (length lists) (list_at lists a) (λ z h. are.orders a z a_in h) in
      let same = apart-different (list_at lists a) (are.once a a_in) in
      omega (arith, few, same)

  -- nor are two together
  pub lists-few : (a b : ℕ) → a < length lists → b < length lists → a ≢ b →
      length (list_at lists a ++ list_at lists b) ≤ length lists
  lists-few a b a_in b_in ne =
      let few = different-bounded (length lists) (list_at lists a ++ list_at lists b)
      (λ z h. elim (or-cases (holds z (list_at lists a)) (holds z (list_at lists b))
      (sym (holds-append z (list_at lists a) (list_at lists b)) ∙ h)) [
        | inl i ↦ are.orders a z a_in i
        | inr i ↦ are.orders b z b_in i
      ]) in
      let same = apart-different (list_at lists a ++ list_at lists b)
      (both-apart a b a_in b_in ne) in
      omega (arith, few, same)

  used-by-first : (s o : ℕ) → s < length lists → slice_get (list_at lists s) 0 ≡ Some o →
      holds s (plan_of lists) ≡ true
  used-by-first s o s_in e =
      let there = get-holds (list_at lists s) 0 o e in
      let o_in = are.orders s o s_in there in
      let here : s ≡ slab_in lists o =
      eqb-true s (slab_in lists o) (sym (are.one_list s o s_in o_in) ∙ there) in
      subst (λ t. holds t (plan_of lists) ≡ true) (plan-at lists o o_in ∙ sym here)
      (get-holds (plan_of lists) o (get_or (plan_of lists) o 0)
      (slice_get-get_or (plan_of lists) o 0 (omega (arith, o_in, plan-count lists))))

  unused-by-first : (s : ℕ) → s < length lists → slice_get (list_at lists s) 0 ≡ None →
      holds s (plan_of lists) ≡ false
  unused-by-first s s_in e = elim (either (holds s (plan_of lists))) [
    | inl h ↦ (let place = holds-place s (plan_of lists) h in
        let o_in : place.0 < length lists = omega (arith, place.1, plan-count lists) in
        let here : slab_in lists place.0 ≡ s = sym (plan-at lists place.0 o_in) ∙ place.2 in
        let there : holds place.0 (list_at lists s) ≡ true =
        are.one_list s place.0 s_in o_in ∙ eq-eqb s (slab_in lists place.0) (sym here) in
        absurd (clash (holds place.0 (list_at lists s)) there
        (subst (λ xs. holds place.0 xs ≡ false) (sym (empty-by-first (list_at lists s) e)) refl)))
    | inr f ↦ f
  ]

  -- a slab is used exactly where its list has a first order
  pub used-first : (s : ℕ) → s < length lists →
      is_some (slice_get (list_at lists s) 0) ≡ holds s (plan_of lists)
  used-first s s_in = go (slice_get (list_at lists s) 0) refl
    where
      go : (first : Option ℕ) → slice_get (list_at lists s) 0 ≡ first →
          is_some first ≡ holds s (plan_of lists)
      go None e = sym (unused-by-first s s_in e)
      go (Some o) e = sym (used-by-first s o s_in e)

  place-times : (kind : ℕ → Bool) (z : ℕ) → z < length lists →
      times eqb z (places_where kind 0 (plan_of lists)) ≡ cond (kind (slab_in lists z)) 1 0
  place-times kind z z_in =
      apart-times (places_where kind 0 (plan_of lists)) (places-apart kind 0 (plan_of lists)) z
      ∙ ap (λ b. cond b 1 0) (places-at kind 0 (plan_of lists) z z
      (omega (arith, z_in, plan-count lists)) (omega arith)
      ∙ ap kind (plan-at lists z z_in))

  no-place-times : (kind : ℕ → Bool) (z : ℕ) → length lists ≤ z →
      times eqb z (places_where kind 0 (plan_of lists)) ≡ 0
  no-place-times kind z out =
      apart-times (places_where kind 0 (plan_of lists)) (places-apart kind 0 (plan_of lists)) z
      ∙ elim (either (holds z (places_where kind 0 (plan_of lists)))) [
        | inl h ↦ (let low = places-high kind 0 (plan_of lists) z h in
            absurd (omega (arith, low, out, plan-count lists)))
        | inr f ↦ rw f refl
      ]

  list-times : (a z : ℕ) → a < length lists → z < length lists →
      times eqb z (list_at lists a) ≡ cond (eqb a (slab_in lists z)) 1 0
  list-times a z a_in z_in =
      apart-times (list_at lists a) (are.once a a_in) z
      ∙ ap (λ b. cond b 1 0) (are.one_list a z a_in z_in)

  no-list-times : (a z : ℕ) → a < length lists → length lists ≤ z →
      times eqb z (list_at lists a) ≡ 0
  no-list-times a z a_in out =
      apart-times (list_at lists a) (are.once a a_in) z
      ∙ elim (either (holds z (list_at lists a))) [
        | inl h ↦ (let low = are.orders a z a_in h in absurd (omega (arith, low, out)))
        | inr f ↦ rw f refl
      ]

  -- the list of a slab has its places
  pub list-places : (a : ℕ) → a < length lists →
      SameTimes eqb (list_at lists a) (places_where (one_of a a) 0 (plan_of lists))
  list-places a a_in z = elim (cases_lt z (length lists)) [
    | inl l ↦ list-times a z a_in l ∙ one (slab_in lists z)
        ∙ sym (place-times (one_of a a) z l)
    | inr g ↦ no-list-times a z a_in g ∙ sym (no-place-times (one_of a a) z g)
  ]
    where
      one : (s : ℕ) → cond {A = ℕ} (eqb a s) 1 0 ≡ cond (one_of a a s) 1 0
      one s = elim (either (eqb a s)) [
        | inl e ↦ rw (e, eq-eqb s a (sym (eqb-true a s e))) refl
        | inr f ↦ rw (f, ne_eqb s a (λ q. false-eqb a s (sym f) (sym q))) refl
      ]

  -- the lists of two slabs have theirs
  pub lists-places : (a b : ℕ) → a < length lists → b < length lists → a ≢ b →
      SameTimes eqb (list_at lists a ++ list_at lists b)
      (places_where (one_of a b) 0 (plan_of lists))
  lists-places a b a_in b_in ne z = times-append eqb z (list_at lists a) (list_at lists b)
      ∙ elim (cases_lt z (length lists)) [
        | inl l ↦ ap₂ (λ m n. m + n) (list-times a z a_in l) (list-times b z b_in l)
            ∙ two (slab_in lists z) ∙ sym (place-times (one_of a b) z l)
        | inr g ↦ ap₂ (λ m n. m + n) (no-list-times a z a_in g) (no-list-times b z b_in g)
            ∙ sym (no-place-times (one_of a b) z g)
      ]
    where
      two : (s : ℕ) → cond (eqb a s) 1 0 + cond (eqb b s) 1 0 ≡ cond (one_of a b s) 1 0
      two s = elim (either (eqb a s)) [
        | inl e ↦ (let here : a ≡ s = eqb-true a s e in
            rw (e, ne_eqb b s (λ q. ne (here ∙ sym q)), eq-eqb s a (sym here)) refl)
        | inr f ↦ (let off : eqb s a ≡ false = ne_eqb s a (λ q. false-eqb a s (sym f) (sym q)) in
            elim (either (eqb b s)) [
              | inl e ↦ rw (f, e, off, eq-eqb s b (sym (eqb-true b s e))) refl
              | inr g ↦ rw (f, g, off, ne_eqb s b (λ q. false-eqb b s (sym g) (sym q))) refl
            ])
      ]
