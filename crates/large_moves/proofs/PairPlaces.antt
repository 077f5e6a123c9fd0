-- The places on a pair of slabs: sorted, they are the rising list of these places; the orders there
-- are those of the pair; and moving them lays the plan that a split asks for.
use Rattle.std.proofs.Common.{ℕ, zero, suc, ◌+◌, ◌<◌, ◌≤◌, ◌≡◌, Bool, true, false, cond}
use Rattle.std.proofs.Common.{List, [], ◌∷◌, ◌++◌, map, length, get_or, set, eqb, ltb}
use Rattle.std.proofs.Common.{refl, sym, ap, ◌∙◌, arith, inl, inr, eq-eqb, eqb-true}
use Rattle.std.proofs.Common.{append_assoc, lt-ltb, ltb-true}
use Rattle.std.specs.List.{All}
use Rattle.std.specs.List.Sorted.{IsPermutation, IsSortedBy}
use Rattle.std.proofs.lemmas.Bool.{cases_lt}
use Rattle.std.proofs.lemmas.List.Elements.{All-from_get_or}
use Rattle.std.proofs.lemmas.List.MinMax.{IsStrictWeakOrder-by_number}
use Rattle.std.proofs.lemmas.Option.{slice_get-get_or}
use Rattle.list_laws.specs.Sets.{chosen, holds, SameTimes}
use Rattle.list_laws.proofs.Among.{Among}
use Rattle.list_laws.proofs.InOrder.{InOrder, ordered-same, sorted-in-order, times-moved}
use Rattle.list_laws.proofs.Lists.{length-push}
use Rattle.list_laws.proofs.Tests.{clash, either, or-left, or-right}
use Rattle.mill_model.specs.declared.order.Order.{Order}
use Rattle.index_links.specs.Lists.{places_where}
use Rattle.index_links.proofs.Made.{places-high, places-low}
use Rattle.index_links.proofs.Members.{get-holds}
use Rattle.large_moves.specs.Moves.{first_mark, further, orders_at, put_at, split_plan}

abbrev pub no_order : Order
no_order = record { weight = 0; colour = 0 }

among-holds : (x : ℕ) (xs : List ℕ) → Among x xs → holds x xs ≡ true
among-holds x [] m = absurd m
among-holds x (y ∷ ys) (inl e) = or-left (eqb x y) (holds x ys) (eq-eqb x y e)
among-holds x (y ∷ ys) (inr m) = or-right (eqb x y) (holds x ys) (among-holds x ys m)

-- places rise
places-rise : (kind : ℕ → Bool) (k : ℕ) (plan : List ℕ) → InOrder ltb (places_where kind k plan)
places-rise kind k [] = tt
places-rise kind k (t ∷ plan) = elim (either (kind t)) [
  | inl e ↦ rw e (
    λ y m. later y (places-low kind (suc k) plan y
        (among-holds y (places_where kind (suc k) plan) m)),
    places-rise kind (suc k) plan,
  )
  | inr f ↦ rw f (places-rise kind (suc k) plan)
]
  where
    later : (y : ℕ) → suc k ≤ y → ltb y k ≡ false
    later y l = elim (either (ltb y k)) [
      | inl t ↦ (let less = ltb-true y k t in absurd (omega (arith, less, l)))
      | inr f ↦ f
    ]

-- the places of a kind, each once, are their rising list once they are sorted
pub sorted-places : (kind : ℕ → Bool) (plan xs ys : List ℕ) →
    SameTimes eqb xs (places_where kind 0 plan) → IsPermutation xs ys → IsSortedBy ltb ys →
    ys ≡ places_where kind 0 plan
sorted-places kind plan xs ys same moved sorted =
    ordered-same ltb eqb eqb-true (λ a. eq-eqb a a refl) tied ys (places_where kind 0 plan)
    (sorted-in-order ltb (IsStrictWeakOrder-by_number (λ x. x)) ys sorted)
    (places-rise kind 0 plan) (λ o. times-moved eqb o xs ys moved ∙ same o)
  where
    tied : (a b : ℕ) → ltb a b ≡ false → ltb b a ≡ false → a ≡ b
    tied a b f g = elim (cases_lt a b) [
      | inl l ↦ absurd (clash (ltb a b) (lt-ltb a b l) f)
      | inr l ↦ elim (cases_lt b a) [
        | inl m ↦ absurd (clash (ltb b a) (lt-ltb b a m) g)
        | inr m ↦ omega (arith, l, m)
      ]
    ]

pub places-within : (kind : ℕ → Bool) (plan : List ℕ) →
    All (λ i. i < length plan) (places_where kind 0 plan)
places-within kind plan =
    All-from_get_or (λ i. i < length plan) (places_where kind 0 plan) 0 (λ i l.
    (let high = places-high kind 0 plan (get_or (places_where kind 0 plan) i 0)
    (get-holds (places_where kind 0 plan) i (get_or (places_where kind 0 plan) i 0)
    (slice_get-get_or (places_where kind 0 plan) i 0 l)) in omega (arith, high)))

-- the orders at the places of a kind are those that stand on slabs of the kind
chosen-places : (kind : ℕ → Bool) (full : List Order) (k : ℕ) (plan : List ℕ)
    (orders : List Order) → length plan ≡ length orders →
    ((j : ℕ) → get_or full (k + j) no_order ≡ get_or orders j no_order) →
    orders_at full (places_where kind k plan) ≡ chosen (map kind plan) orders
chosen-places kind full k [] orders e h = refl
chosen-places kind full k (t ∷ plan) [] e h = absurd (omega arith)
chosen-places kind full k (t ∷ plan) (o ∷ orders) e h =
    let here : get_or full k no_order ≡ o =
    ap (λ i. get_or full i no_order) (omega arith) ∙ h 0 in
    let rest : orders_at full (places_where kind (suc k) plan) ≡ chosen (map kind plan) orders =
    chosen-places kind full (suc k) plan orders (omega arith)
    (λ j. ap (λ i. get_or full i no_order) (omega arith) ∙ h (suc j)) in
    elim (either (kind t)) [
      | inl y ↦ rw y (ap (λ z. z ∷ orders_at full (places_where kind (suc k) plan)) here
          ∙ ap (λ zs. o ∷ zs) rest)
      | inr n ↦ rw n rest
    ]

pub orders-there : (kind : ℕ → Bool) (plan : List ℕ) (orders : List Order) →
    length plan ≡ length orders →
    orders_at orders (places_where kind 0 plan) ≡ chosen (map kind plan) orders
orders-there kind plan orders e =
    chosen-places kind orders 0 plan orders e
    (λ j. ap (λ i. get_or orders i no_order) (omega arith))

-- moving the orders at the places of a kind lays the plan that splits the kind
put-behind : (kind : ℕ → Bool) (a c : ℕ) (front : List ℕ) (k : ℕ) → k ≡ length front →
    (marks : List Bool) (plan : List ℕ) →
    put_at (places_where kind k plan) marks a c (front ++ plan)
    ≡ front ++ split_plan kind marks a c plan
put-behind kind a c front k e marks [] = refl
put-behind kind a c front k e marks (t ∷ plan) = elim (either (kind t)) [
  | inl y ↦ (let new = cond (first_mark marks) a c in
      rw y (ap (put_at (places_where kind (suc k) plan) (further marks) a c)
      (set-behind front t plan k (cond (first_mark marks) a c) e
      ∙ sym (append_assoc front (cond (first_mark marks) a c ∷ []) plan))
      ∙ put-behind kind a c (front ++ cond (first_mark marks) a c ∷ []) (suc k)
      (ap suc e ∙ sym (length-push front (cond (first_mark marks) a c))) (further marks) plan
      ∙ append_assoc front (cond (first_mark marks) a c ∷ [])
      (split_plan kind (further marks) a c plan)))
  | inr n ↦ rw n (ap (put_at (places_where kind (suc k) plan) marks a c)
      (sym (append_assoc front (t ∷ []) plan))
      ∙ put-behind kind a c (front ++ t ∷ []) (suc k) (ap suc e ∙ sym (length-push front t)) marks
      plan
      ∙ append_assoc front (t ∷ []) (split_plan kind marks a c plan))
]
  where
    set-behind : (front : List ℕ) (t : ℕ) (plan : List ℕ) (k new : ℕ) → k ≡ length front →
        set (front ++ t ∷ plan) k new ≡ front ++ new ∷ plan
    set-behind [] t plan k new e = rw e refl
    set-behind (x ∷ front) t plan zero new e = absurd (omega arith)
    set-behind (x ∷ front) t plan (suc k) new e =
        ap (λ zs. x ∷ zs) (set-behind front t plan k new (omega arith))

pub put-places : (kind : ℕ → Bool) (a c : ℕ) (marks : List Bool) (plan : List ℕ) →
    put_at (places_where kind 0 plan) marks a c plan ≡ split_plan kind marks a c plan
put-places kind a c marks plan = put-behind kind a c [] 0 refl marks plan
