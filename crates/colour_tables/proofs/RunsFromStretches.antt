-- The stretches of sorted orders are the runs of the colours, each order once.
use Rattle.std.proofs.Common.{ℕ, zero, suc, ◌+◌, ◌-◌, ◌<◌, ◌≤◌, ◌≡◌, ◌≢◌, Bool, true, false, not}
use Rattle.std.proofs.Common.{List, [], ◌∷◌, ◌++◌, map, length, get_or, take, drop, eqb}
use Rattle.std.proofs.Common.{eqb-true, eq-eqb, ne_eqb, ℤ, pos, refl, sym, ap, ◌∙◌, subst, arith}
use Rattle.std.proofs.Common.{inl, inr}
use Rattle.std.proofs.lemmas.Bool.{cases_lt}
use Rattle.std.proofs.lemmas.Int.{ints}
use Rattle.list_laws.specs.Sets.{holds, below}
use Rattle.mill_model.specs.declared.order.Order.{Order}
use Rattle.list_laws.proofs.Tests.{or-cases, or-left, or-right, and-left, and-right, equal-tests}
use Rattle.list_laws.proofs.Tests.{clash}
use Rattle.list_laws.proofs.Different.{holds-append, below-holds, holds-below-lt}
use Rattle.set_minima.specs.Packs.{nobody, colour_at}
use Rattle.set_minima.specs.Joins.{AreOrders}
use Rattle.set_minima.specs.Cells.{IsSmall}
use Rattle.colour_tables.specs.Entries.{AreSmallAll}
use Rattle.colour_tables.specs.Threes.{once}
use Rattle.colour_tables.specs.Items.{IsItem, IsRun, AreSmall, item_at, no_item}
use Rattle.colour_tables.specs.Items.{places}
use Rattle.colour_tables.specs.Stretches.{coloured_at, stretch_at, IsByColour}
use Rattle.colour_tables.specs.Stretches.{AreStretches, AreColours, AreItems}
use Rattle.colour_tables.specs.declared.by_colour.Coloured.{Coloured}
use Rattle.colour_tables.specs.declared.items.Item.{Item}
use Rattle.colour_tables.proofs.RunsLetIn.{has-place}
use Rattle.colour_tables.proofs.ColoursPaid.{held-name}
use Rattle.colour_tables.proofs.OneItemPriced.{part-at}
use Rattle.mill_model.specs.declared.prices.TheConstants.{MAX_PRICE}
use Rattle.mill_model.specs.declared.order.TheConstants.{MAX_ORDERS}

-- places that differ each stand once
once-apart : (run : List Item) →
    ((s t : ℕ) → s < t → t < length run → eqb (item_at run s).place (item_at run t).place ≡ false) →
    once (places run) ≡ true
once-apart [] apart = refl
once-apart (item ∷ run) apart =
    rw (lacks run (λ t h. apart 0 (suc t) (omega arith) (omega arith)))
    (once-apart run (λ s t h k. apart (suc s) (suc t) (omega arith) (omega arith)))
  where
    lacks : (xs : List Item) → ((t : ℕ) → t < length xs → eqb item.place (item_at xs t).place ≡
        false) →
        holds item.place (places xs) ≡ false
    lacks [] h = refl
    lacks (x ∷ xs) h = rw (h 0 (omega arith)) (lacks xs (λ t k. h (suc t) (omega arith)))

pub place-found : (run : List Item) (i : ℕ) → holds i (places run) ≡ true →
    (t : ℕ) × (t < length run) × ((item_at run t).place ≡ i)
place-found [] i h = absurd (clash false h refl)
place-found (item ∷ run) i h = elim (or-cases (eqb i item.place) (holds i (places run)) h) [
  | inl e ↦ (0, omega arith, sym (eqb-true i item.place e))
  | inr k ↦ (let r = place-found run i k in (
    suc r.0,
    (let l : r.0 < length run = r.1 in omega
        arith),
    r.2,
  ))
]

take-long : (n : ℕ) (xs : List Item) → n ≤ length xs → length (take n xs) ≡ n
take-long zero xs h = refl
take-long (suc n) [] h = absurd (omega arith)
take-long (suc n) (x ∷ xs) h = ap suc (take-long n xs (omega arith))

drop-long : (a n : ℕ) (xs : List Item) → a + n ≤ length xs → n ≤ length (drop a xs)
drop-long zero n xs h = omega arith
drop-long (suc a) n [] h = absurd (omega arith)
drop-long (suc a) n (x ∷ xs) h = drop-long a n xs (omega arith)

pub part-length : (a b : ℕ) (xs : List Item) → a ≤ b → b ≤ length xs →
    length (take (b - a) (drop a xs)) ≡ b - a
part-length a b xs h k = take-long (b - a) (drop a xs) (drop-long a (b - a) xs (omega arith))

once-last : (xs : List ℕ) (y : ℕ) → once xs ≡ true → holds y xs ≡ false →
    once (xs ++ y ∷ []) ≡ true
once-last [] y o n = refl
once-last (x ∷ xs) y o n =
    let e : eqb y x ≡ false = first (eqb y x) refl in
    let m : holds y xs ≡ false = rest (eqb y x) refl in
    let f : eqb x y ≡ false = ne_eqb x y (λ q. clash (eqb y x) (eq-eqb y x (sym q)) e) in
    let p : holds x xs ≡ false = no (holds x xs) refl in
    let k : holds x (xs ++ y ∷ []) ≡ false = holds-append x xs (y ∷ []) ∙ rw (p, f) refl in
    rw k (once-last xs y (and-right (not (holds x xs)) (once xs) o) m)
  where
    first : (b : Bool) → eqb y x ≡ b → eqb y x ≡ false
    first false e = e
    first true e = absurd (clash (holds y (x ∷ xs)) (or-left (eqb y x) _ e) n)

    rest : (b : Bool) → eqb y x ≡ b → holds y xs ≡ false
    rest true e = absurd (clash (holds y (x ∷ xs)) (or-left (eqb y x) _ e) n)
    rest false e = sym (rw e refl) ∙ n

    no : (b : Bool) → holds x xs ≡ b → holds x xs ≡ false
    no false e = e
    no true e =
        absurd (clash (not (holds x xs)) (and-left (not (holds x xs)) (once xs) o) (rw e refl))

map-last : (f : ℕ → ℕ) (xs : List ℕ) (y : ℕ) → map f (xs ++ y ∷ []) ≡ map f xs ++ f y ∷ []
map-last f [] y = refl
map-last f (x ∷ xs) y = ap (λ z. f x ∷ z) (map-last f xs y)

from-name : (f : ℕ → ℕ) (x : ℕ) (cs : List ℕ) → holds x (map f cs) ≡ true →
    (c : ℕ) × (holds c cs ≡ true) × (f c ≡ x)
from-name f x [] h = absurd (clash false h refl)
from-name f x (d ∷ ds) h = elim (or-cases (eqb x (f d)) (holds x (map f ds)) h) [
  | inl e ↦ (d, or-left (eqb d d) _ (eq-eqb d d refl), sym (eqb-true x (f d) e))
  | inr k ↦ (let r = from-name f x ds k in (r.0, or-right (eqb r.0 d) _ r.1, r.2))
]

-- names that differ stand once
pub names-once : (f : ℕ → ℕ) (m : ℕ) → ((c d : ℕ) → c < d → d < m → f c ≢ f d) →
    once (map f (below m)) ≡ true
names-once f zero h = refl
names-once f (suc m) h =
    subst (λ z. once z ≡ true) (sym (map-last f (below m) m))
    (once-last (map f (below m)) (f m) (names-once f m (λ c d a b. h c d a (omega arith)))
    (none (holds (f m) (map f (below m))) refl))
  where
    none : (b : Bool) → holds (f m) (map f (below m)) ≡ b → holds (f m) (map f (below m)) ≡ false
    none false e = e
    none true e =
        let r = from-name f (f m) (below m) e in
        absurd (h r.0 m (holds-below-lt r.0 m r.1) (omega arith) r.2)

module _ (rest : List Order) (prices : List ℤ) (same : length prices ≡ length rest)
    (sorted : List Coloured) (by : IsByColour rest sorted) (ends : List (ℕ × ℕ))
    (st : AreStretches sorted (length sorted) ends) (colours : List ℕ)
    (co : AreColours sorted ends colours) (items : List Item)
    (it : AreItems rest prices sorted items) where
  abbrev name : ℕ → ℕ
  name c = get_or colours c 0

  abbrev run : ℕ → List Item
  run c = take ((stretch_at ends c).1 - (stretch_at ends c).0) (drop (stretch_at ends c).0 items)

  -- the orders of one stretch
  module _ (c : ℕ) (here : c < length ends) where
    abbrev at : ℕ
    at = (stretch_at ends c).0

    abbrev end : ℕ
    end = (stretch_at ends c).1

    pub within : (at ≤ end) × (end ≤ length items)
    within =
        let s : at < end = (st.each c here).some in
        let e : end ≤ length sorted = (st.each c here).ends in
        let n : length items ≡ length sorted = it.count in
        (omega arith, omega arith)

    run-length : length (run c) ≡ end - at
    run-length = part-length at end items within.0 within.1

    run-item : (t : ℕ) → t < length (run c) → (at + t < end) × (at + t < length sorted)
        × (item_at (run c) t ≡ item_at items (at + t))
    run-item t h =
        let n : length (run c) ≡ end - at = run-length in
        let e : end ≤ length sorted = (st.each c here).ends in
        (omega arith, omega arith, part-at at (end - at) t items (omega arith))

    run-place : (t : ℕ) → t < length (run c) →
        (item_at (run c) t).place ≡ (coloured_at sorted (at + t)).place
    run-place t h =
        let r = run-item t h in
        ap (λ (i : Item). i.place) r.2 ∙ it.place (at + t) r.1

    item-is : (t : ℕ) → t < length (run c) → IsItem rest prices (item_at (run c) t)
    item-is t h =
        let r = run-item t h in
        let p = run-place t h in
        record {
          inside = subst (λ z. z < length rest) (sym p) (by.inside (at + t) r.1);
          weighs =
              ap (λ (i : Item). i.weight) r.2 ∙ it.weighs (at + t) r.1
              ∙ ap (λ z. (get_or rest z nobody).weight) (sym p);
          priced =
              ap (λ (i : Item). i.price) r.2 ∙ it.priced (at + t) r.1
              ∙ ap (λ z. get_or prices z (pos 0)) (sym p);
        }

    apart : (s t : ℕ) → s < t → t < length (run c) →
        eqb (item_at (run c) s).place (item_at (run c) t).place ≡ false
    apart s t h k =
        let r = run-item t k in
        rw (run-place s (omega arith), run-place t k)
        (by.apart (at + s) (at + t) (omega arith) r.1)

    named : (t : ℕ) → at ≤ t → t < end → colour_at rest (coloured_at sorted t).place ≡ name c
    named t a b =
        let e : end ≤ length sorted = (st.each c here).ends in
        sym (by.coloured t (omega arith)) ∙ (st.each c here).alike t a b ∙ sym (co.each c here)

    holds-named : (i : ℕ) → holds i (places (run c)) ≡ true → eqb (colour_at rest i) (name c) ≡ true
    holds-named i h =
        let r = place-found (run c) i h in
        let q = run-item r.0 r.1 in
        let p : (coloured_at sorted (at + r.0)).place ≡ i = sym (run-place r.0 r.1) ∙ r.2 in
        eq-eqb (colour_at rest i) (name c)
        (subst (λ z. colour_at rest z ≡ name c) p (named (at + r.0) (omega arith) q.0))

    named-holds : (i : ℕ) → i < length rest → eqb (colour_at rest i) (name c) ≡ true →
        holds i (places (run c)) ≡ true
    named-holds i h e =
        let r = by.all i h in
        let same : (coloured_at sorted r.0).colour ≡ (coloured_at sorted at).colour =
        by.coloured r.0 r.1 ∙ ap (colour_at rest) r.2
        ∙ eqb-true (colour_at rest i) (name c) e ∙ co.each c here in
        elim (cases_lt r.0 at) [
          | inl b ↦ absurd (let l = (st.each c here).before r.0 b in omega arith)
          | inr b ↦ elim (cases_lt r.0 end) [
            | inr d ↦ absurd (let l = (st.each c here).after r.0 d r.1 in omega arith)
            | inl d ↦ (let n : length (run c) ≡ end - at = run-length in
                let k : r.0 - at < length (run c) = omega arith in
                let m : at + (r.0 - at) ≡ r.0 = omega arith in
                let p : (item_at (run c) (r.0 - at)).place ≡ i =
                run-place (r.0 - at) k ∙ ap (λ z. (coloured_at sorted z).place) m ∙ r.2 in
                subst (λ z. holds z (places (run c)) ≡ true) p (has-place (run c) (r.0 - at) k))
          ]
        ]

    pub run-is : IsRun rest prices (name c) (run c)
    run-is = record {
      same = same;
      items = item-is;
      apart = once-apart (run c) apart;
      whole = λ i h.
          equal-tests (holds i (places (run c))) (eqb (colour_at rest i) (name c))
          (λ k. holds-named i k) (λ k. named-holds i h k);
    }

    pub run-small : length rest ≤ MAX_ORDERS → AreOrders rest → AreSmallAll prices →
        AreSmall (run c)
    run-small few orders small = record {
      few =
          let n : length (run c) ≡ end - at = run-length in
          let e : end ≤ length sorted = (st.each c here).ends in
          let m : length sorted ≡ length rest = by.count in
          omega arith;
      weights = λ t h.
          let i = item-is t h in
          subst (λ z. 0 < z) (sym i.weighs) (orders (item_at (run c) t).place i.inside);
      prices = λ t. elim (cases_lt t (length (run c))) [
        | inl b ↦ subst (IsSmall MAX_PRICE) (sym (item-is t b).priced)
            (small (item_at (run c) t).place)
        | inr b ↦ subst (λ (z : Item). IsSmall MAX_PRICE z.price) (sym (past (run c) t b))
            (omega (arith, ints), omega (arith, ints))
      ];
    }
      where
        past : (xs : List Item) (t : ℕ) → length xs ≤ t → item_at xs t ≡ no_item
        past [] t h = refl
        past (x ∷ xs) zero h = absurd (omega arith)
        past (x ∷ xs) (suc t) h = past xs t (omega arith)

  rising : (c d : ℕ) → c < d → d < length ends → name c ≢ name d
  rising c d h k q =
      let s = (st.each d k).before (stretch_at ends c).0
      (let a : (stretch_at ends c).0 < (stretch_at ends c).1 = (st.each c (omega arith)).some in
      let b : (stretch_at ends c).1 ≤ (stretch_at ends d).0 = st.rise c d h k in
      omega arith) in
      let x : name c ≡ (coloured_at sorted (stretch_at ends c).0).colour = co.each c (omega arith)
      in
      let y : name d ≡ (coloured_at sorted (stretch_at ends d).0).colour = co.each d k in
      absurd (omega arith)

  pub colours-once : once (map name (below (length ends))) ≡ true
  colours-once = names-once name (length ends) rising

  pub colours-all : (i : ℕ) → i < length rest →
      holds (colour_at rest i) (map name (below (length ends))) ≡ true
  colours-all i h =
      let r = by.all i h in
      let s = st.reach r.0 r.1 in
      subst (λ z. holds z (map name (below (length ends))) ≡ true)
      (sym (named s.0 s.1 r.0 s.2 s.3) ∙ ap (colour_at rest) r.2)
      (held-name name s.0 (below (length ends)) (below-holds s.0 (length ends) s.1))
