-- A new price of one item.
use Rattle.std.proofs.Common.{ℕ, zero, suc, ◌+◌, ◌-◌, ◌<◌, ◌≤◌, ◌≡◌, ◌≢◌, ◌⊎◌, true, not, List, []}
use Rattle.std.proofs.Common.{◌∷◌, length, map, take, drop, get_or, set, ℤ, pos, eqb, eqb-true}
use Rattle.std.proofs.Common.{eq-eqb}
use Rattle.std.proofs.Common.{refl, sym, ap, ◌∙◌, subst, arith, inl, inr, length-set}
use Rattle.std.proofs.lemmas.Bool.{cases_lt}
use Rattle.std.proofs.Math.Seq.{map-set_same}
use Rattle.std.proofs.lemmas.List.{get_or-take, get_or-drop, get_or-set_same, get_or-set_other}
use Rattle.std.proofs.lemmas.List.{get_or_past}
use Rattle.list_laws.specs.Sets.{holds}
use Rattle.mill_model.specs.declared.order.Order.{Order}
use Rattle.list_laws.proofs.Tests.{either}
use Rattle.list_laws.proofs.Tests.{and-left, and-right}
use Rattle.set_minima.specs.Packs.{colour_at, nobody}
use Rattle.list_laws.proofs.Tests.{clash}
use Rattle.colour_tables.specs.Threes.{once}
use Rattle.colour_tables.specs.Items.{places, item_at, no_item, IsItem, IsRun, AreSmall}
use Rattle.set_minima.specs.Cells.{IsSmall}
use Rattle.std.proofs.lemmas.Int.{ints}
use Rattle.colour_tables.specs.declared.items.Item.{Item}
use Rattle.colour_tables.proofs.ColoursPaid.{same-name}
use Rattle.colour_tables.proofs.RunsLetIn.{has-place, not-true}
use Rattle.mill_model.specs.declared.prices.TheConstants.{MAX_PRICE}
use Rattle.mill_model.specs.declared.order.TheConstants.{MAX_ORDERS}

-- places of a run differ
pub places-differ : (run : List Item) (s t : ℕ) → s < t → t < length run →
    once (places run) ≡ true → (item_at run s).place ≢ (item_at run t).place
places-differ [] s t h b o q = absurd (omega arith)
places-differ (item ∷ run) s zero h b o q = absurd (omega arith)
places-differ (item ∷ run) zero (suc t) h b o q =
    clash (holds item.place (places run))
    (subst (λ z. holds z (places run) ≡ true) (sym q) (has-place run t (omega arith)))
    (not-true (holds item.place (places run))
    (and-left (not (holds item.place (places run))) (once (places run)) o))
places-differ (item ∷ run) (suc s) (suc t) h b o q =
    places-differ run s t (omega arith) (omega arith)
    (and-right (not (holds item.place (places run))) (once (places run)) o) q

-- a run of the same orders, of which one has a new price
pub run-repriced : (rest : List Order) (prices : List ℤ) (x j : ℕ) (v : ℤ)
    (run now : List Item) → IsRun rest prices x run → j < length rest →
    length now ≡ length run → places now ≡ places run →
    ((t : ℕ) → t < length run → (item_at now t).weight ≡ (item_at run t).weight) →
    ((t : ℕ) → t < length run → (item_at now t).place ≡ (item_at run t).place) →
    ((t : ℕ) → t < length run → (((item_at run t).place ≡ j) × ((item_at now t).price ≡ v))
    ⊎ (((item_at run t).place ≢ j) × ((item_at now t).price ≡ (item_at run t).price))) →
    IsRun rest (set prices j v) x now
run-repriced rest prices x j v run now is here n p w q e = record {
  same = length-set prices j v ∙ is.same;
  items = λ t b. (let c : t < length run = omega arith in
      let i : IsItem rest prices (item_at run t) = is.items t c in
      record {
        inside = subst (λ z. z < length rest) (sym (q t c)) i.inside;
        weighs = w t c ∙ i.weighs ∙ ap (λ z. (get_or rest z nobody).weight) (sym (q t c));
        priced = subst (λ z. (item_at now t).price ≡ get_or (set prices j v) z (pos 0))
            (sym (q t c)) (elim (e t c) [
              | inl a ↦ a.1 ∙ subst (λ z. v ≡ get_or (set prices j v) z (pos 0)) (sym a.0)
                  (sym (get_or-set_same prices j v (pos 0) (rw is.same here)))
              | inr a ↦ a.1 ∙ i.priced
                  ∙ sym (get_or-set_other prices j (item_at run t).place v (pos 0) a.0)
            ]);
      });
  apart = subst (λ z. once z ≡ true) (sym p) is.apart;
  whole = λ i b. ap (holds i) p ∙ is.whole i b;
}

-- an item of another colour is another order
pub other-colour : (rest : List Order) (prices : List ℤ) (x j t : ℕ) (run : List Item) →
    IsRun rest prices x run → t < length run → j < length rest → colour_at rest j ≢ x →
    (item_at run t).place ≢ j
other-colour rest prices x j t run is b here n q =
    n (eqb-true (colour_at rest j) x (sym (is.whole j here)
    ∙ subst (λ z. holds z (places run) ≡ true) q (has-place run t b)))

map-take : (f : Item → ℕ) (n : ℕ) (xs : List Item) → map f (take n xs) ≡ take n (map f xs)
map-take f zero xs = refl
map-take f (suc n) [] = refl
map-take f (suc n) (x ∷ xs) = ap (λ z. f x ∷ z) (map-take f n xs)

map-drop : (f : Item → ℕ) (n : ℕ) (xs : List Item) → map f (drop n xs) ≡ drop n (map f xs)
map-drop f zero xs = refl
map-drop f (suc n) [] = refl
map-drop f (suc n) (x ∷ xs) = map-drop f n xs

length-map : (f : Item → ℕ) (xs : List Item) → length (map f xs) ≡ length xs
length-map f [] = refl
length-map f (x ∷ xs) = ap suc (length-map f xs)

front-short : (n : ℕ) (xs : List Item) → length (take n xs) ≤ n
front-short zero xs = omega arith
front-short (suc n) [] = omega arith
front-short (suc n) (x ∷ xs) = let ih : length (take n xs) ≤ n = front-short n xs in omega arith

-- an item of a part of a list
pub part-at : (a n t : ℕ) (xs : List Item) → t < n →
    item_at (take n (drop a xs)) t ≡ item_at xs (a + t)
part-at a n t xs b = get_or-take n (drop a xs) t no_item b ∙ get_or-drop a xs t no_item

-- a part of the items, once one of them has a new price
module _ (xs : List Item) (at : ℕ) (item : Item) (here : at < length xs)
    (place : item.place ≡ (item_at xs at).place) (weight : item.weight ≡ (item_at xs at).weight)
    (a n : ℕ) where
  part-places : places (take n (drop a (set xs at item))) ≡ places (take n (drop a xs))
  part-places =
      map-take (λ (i : Item). i.place) n (drop a (set xs at item))
      ∙ ap (take n) (map-drop (λ (i : Item). i.place) a (set xs at item)
      ∙ ap (drop a) (map-set_same (λ (i : Item). i.place) xs at item no_item place)
      ∙ sym (map-drop (λ (i : Item). i.place) a xs))
      ∙ sym (map-take (λ (i : Item). i.place) n (drop a xs))

  part-length : length (take n (drop a (set xs at item))) ≡ length (take n (drop a xs))
  part-length =
      sym (length-map (λ (i : Item). i.place) (take n (drop a (set xs at item))))
      ∙ ap length part-places ∙ length-map (λ (i : Item). i.place) (take n (drop a xs))

  part-item : (t : ℕ) → t < length (take n (drop a xs)) →
      ((a + t ≡ at) × (item_at (take n (drop a (set xs at item))) t ≡ item)
      × (item_at (take n (drop a xs)) t ≡ item_at xs at))
      ⊎ ((a + t ≢ at) × (item_at (take n (drop a (set xs at item))) t
      ≡ item_at (take n (drop a xs)) t))
  part-item t b =
      let s : length (take n (drop a xs)) ≤ n = front-short n (drop a xs) in
      let e = part-at a n t (set xs at item) (omega arith) in
      let f = part-at a n t xs (omega arith) in
      elim (equal (a + t) at) [
        | inl q ↦ inl (
          q,
          e ∙ ap (item_at (set xs at item)) q
              ∙ get_or-set_same xs at item no_item here,
          f ∙ ap (item_at xs) q,
        )
        | inr q ↦ inr (q, e ∙ get_or-set_other xs at (a + t) item no_item q ∙ sym f)
      ]
    where
      equal : (k l : ℕ) → (k ≡ l) ⊎ (k ≢ l)
      equal k l = elim (cases_lt k l) [
        | inl a ↦ inr (λ q. absurd (omega arith))
        | inr a ↦ elim (cases_lt l k) [
          | inl b ↦ inr (λ q. absurd (omega arith))
          | inr b ↦ inl (omega arith)
        ]
      ]

  -- a run that has the item, or a run of another colour
  pub part-repriced : (rest : List Order) (prices : List ℤ) (x j : ℕ) →
      IsRun rest prices x (take n (drop a xs)) → j < length rest → (item_at xs at).place ≡ j →
      ((a ≤ at) × (at < a + length (take n (drop a xs)))) ⊎ (colour_at rest j ≢ x) →
      IsRun rest (set prices j item.price) x (take n (drop a (set xs at item)))
  part-repriced rest prices x j is b p o =
      run-repriced rest prices x j item.price (take n (drop a xs))
      (take n (drop a (set xs at item))) is b part-length part-places
      (λ t c. elim (part-item t c) [
        | inl e ↦ ap (λ (i : Item). i.weight) e.1 ∙ weight ∙ sym (ap (λ (i : Item). i.weight) e.2)
        | inr e ↦ ap (λ (i : Item). i.weight) e.1
      ])
      (λ t c. elim (part-item t c) [
        | inl e ↦ ap (λ (i : Item). i.place) e.1 ∙ place ∙ sym (ap (λ (i : Item). i.place) e.2)
        | inr e ↦ ap (λ (i : Item). i.place) e.1
      ])
      (λ t c. elim (part-item t c) [
        | inl e ↦ inl (ap (λ (i : Item). i.place) e.2 ∙ p, ap (λ (i : Item). i.price) e.1)
        | inr e ↦ inr (other t c e.0 o, ap (λ (i : Item). i.price) e.1)
      ])
    where
      run : List Item
      run = take n (drop a xs)

      other : (t : ℕ) → t < length (take n (drop a xs)) → a + t ≢ at →
          ((a ≤ at) × (at < a + length (take n (drop a xs)))) ⊎ (colour_at rest j ≢ x) →
          (item_at (take n (drop a xs)) t).place ≢ j
      other t c d (inr m) q =
          other-colour rest prices x j t (take n (drop a xs)) is c b m q
      other t c d (inl m) q =
          let s : length (take n (drop a xs)) ≤ n = front-short n (drop a xs) in
          let l : at - a < length (take n (drop a xs)) = omega (arith, m.0, m.1) in
          let u : a + (at - a) ≡ at = omega (arith, m.0) in
          let f : (item_at (take n (drop a xs)) (at - a)).place ≡ j =
          ap (λ (i : Item). i.place) (part-at a n (at - a) xs (omega arith)
          ∙ ap (item_at xs) u) ∙ p in
          elim (cases_lt t (at - a)) [
            | inl g ↦ places-differ (take n (drop a xs)) t (at - a) g l is.apart (q ∙ sym f)
            | inr g ↦ places-differ (take n (drop a xs)) (at - a) t
                (let v : t ≢ at - a = (λ w. d (omega (arith, m.0))) in omega (arith, v)) c is.apart
                (f ∙ sym q)
          ]

pub default-is : (xs : List Item) (i : ℕ) (d : Item) → i < length xs → d ≡ get_or xs i d →
    d ≡ item_at xs i
default-is xs i d h e = e ∙ change xs i h
  where
    change : (xs : List Item) (i : ℕ) → i < length xs → get_or xs i d ≡ item_at xs i
    change [] i h = absurd (omega arith)
    change (x ∷ xs) zero h = refl
    change (x ∷ xs) (suc i) h = change xs i (omega arith)

-- the order is in the run of its colour alone
pub in-one-run : (rest : List Order) (name : ℕ → ℕ) (present : List ℕ) (c x j : ℕ)
    (A : Type 0) → once (map name present) ≡ true → holds c present ≡ true →
    holds x present ≡ true → colour_at rest j ≡ name c → (x ≡ c → A) →
    A ⊎ (colour_at rest j ≢ name x)
in-one-run rest name present c x j A o h k at f = elim (either (eqb x c)) [
  | inl e ↦ inl (f (eqb-true x c e))
  | inr e ↦ inr (λ q. clash (eqb x c) (eq-eqb x c
      (same-name name x c present o k h (sym q ∙ at))) e)
]

pub part-small : (xs : List Item) (at : ℕ) (item : Item) → at < length xs →
    item.place ≡ (item_at xs at).place → item.weight ≡ (item_at xs at).weight →
    IsSmall MAX_PRICE item.price → (a n : ℕ) → AreSmall (take n (drop a xs)) →
    AreSmall (take n (drop a (set xs at item)))
part-small xs at item h p w s a n small =
    let len : length (take n (drop a (set xs at item))) ≡ length (take n (drop a xs)) =
    part-length xs at item h p w a n in
    record {
      few = subst (λ z. z ≤ MAX_ORDERS) (sym len) small.few;
      weights = λ t b. (let c : t < length (take n (drop a xs)) = omega arith in
          subst (λ z. 0 < z) (sym (elim (part-item xs at item h p w a n t c) [
            | inl e ↦ ap (λ (i : Item). i.weight) e.1 ∙ w ∙ sym (ap (λ (i : Item). i.weight) e.2)
            | inr e ↦ ap (λ (i : Item). i.weight) e.1
          ])) (small.weights t c));
      prices = λ t. elim (cases_lt t (length (take n (drop a xs)))) [
        | inl c ↦ elim (part-item xs at item h p w a n t c) [
          | inl e ↦ subst (λ (i : Item). IsSmall MAX_PRICE i.price) (sym e.1) s
          | inr e ↦ subst (λ (i : Item). IsSmall MAX_PRICE i.price) (sym e.1) (small.prices t)
        ]
        | inr c ↦ subst (λ (i : Item). IsSmall MAX_PRICE i.price)
            (sym (get_or_past (take n (drop a (set xs at item))) t no_item (omega arith)))
            (omega (arith, ints), omega (arith, ints))
      ];
    }
