-- Items: which orders are among the first of them, and what one item or one run more lets in.
use Rattle.std.proofs.Common.{ℕ, zero, suc, ◌+◌, ◌-◌, ◌<◌, ◌≤◌, ◌≡◌, ◌≢◌, ◌⊎◌, Bool, true, false}
use Rattle.std.proofs.Common.{◌&&◌, not, cond, ◌||◌, List, [], ◌∷◌, length, get_or, eqb, eq-eqb}
use Rattle.std.proofs.Common.{ne_eqb, eqb-true, ℤ, pos, Option, leb, leb-true, leb-false, refl, sym}
use Rattle.std.proofs.Common.{ap, ◌∙◌, subst, arith, inl, inr}
use Rattle.std.proofs.lemmas.Bool.{cases_lt}
use Rattle.list_laws.specs.Sets.{holds}
use Rattle.mill_model.specs.declared.order.Order.{Order}
use Rattle.list_laws.proofs.Tests.{and-left, and-right, either, or-cases, or-left, or-right, clash}
use Rattle.list_laws.proofs.Tests.{equal-tests}
use Rattle.set_minima.specs.Packs.{nobody, colour_at, IsBest, IsTable, IsNext, IsNextColour, better}
use Rattle.set_minima.specs.Packs.{with_price}
use Rattle.set_minima.proofs.LeftOut.{single-added, single-heavy}
use Rattle.least_slacks.specs.Items.{item_at, AreItems, placed, owned, others, joined_in, let_in}
use Rattle.least_slacks.specs.Items.{IsStretch, IsRun, Letting}
use Rattle.least_slacks.specs.declared.later_orders.Item.{Item}

-- what is among the first items stands at a place below
pub placed-at : (items : List Item) (t i : ℕ) → placed items t i ≡ true →
    (s : ℕ) × (s < t) × (s < length items) × ((item_at items s).place ≡ i)
placed-at items zero i h = absurd (grind arith)
placed-at [] (suc t) i h = absurd (grind arith)
placed-at (item ∷ items) (suc t) i h =
    elim (or-cases (eqb i item.place) (placed items t i) h) [
      | inl e ↦ (0, omega arith, omega arith, sym (eqb-true i item.place e))
      | inr k ↦ (let r = placed-at items t i k in
          (suc r.0, omega (arith, r.1), omega (arith, r.2), r.3))
    ]

pub place-placed : (items : List Item) (t s : ℕ) → s < t → s < length items →
    placed items t (item_at items s).place ≡ true
place-placed items zero s h k = absurd (omega arith)
place-placed [] (suc t) s h k = absurd (omega arith)
place-placed (item ∷ items) (suc t) zero h k =
    or-left (eqb item.place item.place) _ (eq-eqb item.place item.place refl)
place-placed (item ∷ items) (suc t) (suc s) h k =
    or-right (eqb (item_at items s).place item.place) _
    (place-placed items t s (omega arith) (omega arith))

both : (a b : Bool) → a ≡ true → b ≡ true → (a && b) ≡ true
both true b h k = k
both false b h k = h

clashing : (a b : ℕ) → eqb a b ≡ false → a ≢ b
clashing a b e q = let z : eqb a b ≡ true = eq-eqb a b q in clash (eqb a b) z e

module _ (rest : List Order) (items : List Item) (it : AreItems rest items) where
  -- an item is not among those before it
  pub not-placed : (t : ℕ) → t < length items → placed items t (item_at items t).place ≡ false
  not-placed t h = go (placed items t (item_at items t).place) refl
    where
      go : (b : Bool) → placed items t (item_at items t).place ≡ b →
          placed items t (item_at items t).place ≡ false
      go false e = e
      go true e =
          let r = placed-at items t (item_at items t).place e in
          absurd (clashing (item_at items r.0).place (item_at items t).place
          (it.apart r.0 t r.1 h) r.3)

  placed-more : (t i : ℕ) → placed items t i ≡ true → placed items (t + 1) i ≡ true
  placed-more t i h =
      let r = placed-at items t i h in
      subst (λ j. placed items (t + 1) j ≡ true) r.3
      (place-placed items (t + 1) r.0 (omega (arith, r.1)) r.2)

  pub placed-wider : (s t i : ℕ) → s ≤ t → placed items s i ≡ true → placed items t i ≡ true
  placed-wider s t i l h =
      let r = placed-at items s i h in
      subst (λ j. placed items t j ≡ true) r.3
      (place-placed items t r.0 (omega (arith, r.1)) r.2)

  placed-less : (t i : ℕ) → t < length items → placed items (t + 1) i ≡ true →
      eqb i (item_at items t).place ≡ false → placed items t i ≡ true
  placed-less t i l h n =
      let r = placed-at items (t + 1) i h in
      elim (cases_lt r.0 t) [
        | inl b ↦ subst (λ j. placed items t j ≡ true) r.3 (place-placed items t r.0 b r.2)
        | inr b ↦ (let e : r.0 ≡ t = omega (arith, r.1) in
            absurd (clash (eqb i (item_at items t).place)
            (eq-eqb i (item_at items t).place (sym (subst (λ s.
            (item_at items s).place ≡ i) e r.3)))
            n))
      ]

  pub placed-all : (t i : ℕ) → length items ≤ t → i < length rest → placed items t i ≡ true
  placed-all t i l h =
      let r = it.all i h in
      subst (λ j. placed items t j ≡ true) r.2 (place-placed items t r.0 (omega (arith, r.1)) r.1)

  -- one item more of an order that is let in
  pub next-let_in : (letting : Letting) (t : ℕ) → t < length items →
      holds (colour_at rest (item_at items t).place) letting.before ≡ true →
      holds (colour_at rest (item_at items t).place) letting.after ≡ false →
      IsNext (let_in rest items letting t) (let_in rest items letting (t + 1))
      (item_at items t).place
  next-let_in letting t l w n = record {
    new = rw (w, n, not-placed t l);
    now = rw (w, n, place-placed items (t + 1) t (omega arith) l);
    kept = λ i h. elim (or-cases (others rest letting.before i)
        (others rest letting.after i && placed items t i) h) [
          | inl a ↦ or-left (others rest letting.before i) _ a
          | inr a ↦ or-right (others rest letting.before i) _
              (both (others rest letting.after i) (placed items (t + 1) i)
              (and-left (others rest letting.after i) (placed items t i) a)
              (placed-more t i (and-right (others rest letting.after i) (placed items t i) a)))
        ];
    only = λ i h e. elim (or-cases (others rest letting.before i)
        (others rest letting.after i && placed items (t + 1) i) h) [
          | inl a ↦ or-left (others rest letting.before i) _ a
          | inr a ↦ or-right (others rest letting.before i) _
              (both (others rest letting.after i) (placed items t i)
              (and-left (others rest letting.after i) (placed items (t + 1) i) a)
              (placed-less t i l
              (and-right (others rest letting.after i) (placed items (t + 1) i) a) e))
        ];
  }

  -- one item more of the orders whose colours were left out
  pub next-joined : (out : List ℕ) (t : ℕ) → t < length items →
      holds (colour_at rest (item_at items t).place) out ≡ true →
      IsNext (joined_in rest items out t) (joined_in rest items out (t + 1))
      (item_at items t).place
  next-joined out t l p = record {
    new = rw (p, not-placed t l);
    now =
        or-right (others rest out (item_at items t).place) _
        (place-placed items (t + 1) t (omega arith) l);
    kept = λ i h. elim (or-cases (others rest out i) (placed items t i) h) [
      | inl a ↦ or-left (others rest out i) _ a
      | inr a ↦ or-right (others rest out i) _ (placed-more t i a)
    ];
    only = λ i h e. elim (or-cases (others rest out i) (placed items (t + 1) i) h) [
      | inl a ↦ or-left (others rest out i) _ a
      | inr a ↦ or-right (others rest out i) _ (placed-less t i l a e)
    ];
  }

  -- and of another colour
  pub other-joined : (out : List ℕ) (t : ℕ) → t < length items →
      holds (colour_at rest (item_at items t).place) out ≡ false → (i : ℕ) →
      joined_in rest items out t i ≡ joined_in rest items out (t + 1) i
  other-joined out t l n i = go (owned rest out i) refl
    where
      same : owned rest out i ≡ true → (b d : Bool) → placed items t i ≡ b →
          placed items (t + 1) i ≡ d → b ≡ d
      same o true true x y = refl
      same o true false x y = absurd (clash (placed items (t + 1) i) (placed-more t i x) y)
      same o false true x y =
          elim (either (eqb i (item_at items t).place)) [
            | inl e ↦ (let q : i ≡ (item_at items t).place = eqb-true i (item_at items t).place e in
                absurd (clash (owned rest out i) o (rw q n)))
            | inr e ↦ absurd (clash (placed items t i) (placed-less t i l y e) x)
          ]
      same o false false x y = refl

      go : (b : Bool) → owned rest out i ≡ b →
          joined_in rest items out t i ≡ joined_in rest items out (t + 1) i
      go false e = rw e refl
      go true e = rw e (same e (placed items t i) (placed items (t + 1) i) refl refl)

-- no order is among the first items at first
pub none-let_in : (rest : List Order) (items : List Item) (letting : Letting) (i : ℕ) →
    others rest letting.before i ≡ let_in rest items letting 0 i
none-let_in rest items letting i = go (others rest letting.before i) (others rest letting.after i)
  where
    go : (b d : Bool) → b ≡ (b || (d && false))
    go true d = refl
    go false true = refl
    go false false = refl

pub none-joined : (rest : List Order) (items : List Item) (out : List ℕ) (i : ℕ) →
    others rest out i ≡ joined_in rest items out 0 i
none-joined rest items out i = go (others rest out i)
  where
    go : (b : Bool) → b ≡ (b || false)
    go true = refl
    go false = refl

-- and in the end all are
pub all-let_in : (rest : List Order) (items : List Item) → AreItems rest items →
    (letting : Letting) (t i : ℕ) → length items ≤ t → i < length rest →
    (others rest letting.before i ≡ true → others rest letting.after i ≡ true) →
    let_in rest items letting t i ≡ others rest letting.after i
all-let_in rest items it letting t i l h within =
    rw (placed-all rest items it t i l h)
    (go (others rest letting.before i) (others rest letting.after i) within)
  where
    go : (b d : Bool) → (b ≡ true → d ≡ true) → (b || (d && true)) ≡ d
    go true d f = sym (f refl)
    go false true f = refl
    go false false f = refl

pub all-joined : (rest : List Order) (items : List Item) → AreItems rest items → (out : List ℕ)
    (t i : ℕ) → length items ≤ t → i < length rest → joined_in rest items out t i ≡ true
all-joined rest items it out t i l h =
    or-right (others rest out i) _ (placed-all rest items it t i l h)

-- A run of items of one colour.

-- it ends where the colour does, since colours rise
pub stretch-from : (rest : List Order) (items : List Item) → AreItems rest items → (at end : ℕ) →
    at < end → end ≤ length items → ((s : ℕ) → s < at →
    (item_at items s).colour < (item_at items at).colour) →
    ((t : ℕ) → at ≤ t → t < end → (item_at items t).colour ≡ (item_at items at).colour) →
    (end < length items → (item_at items end).colour ≢ (item_at items at).colour) →
    IsStretch items at end
stretch-from rest items it at end some ends before alike other = record {
  some = some;
  ends = ends;
  alike = alike;
  before = before;
  after = λ t a b.
      let n : (item_at items end).colour ≢ (item_at items at).colour = other (omega arith) in
      let u : (item_at items at).colour ≤ (item_at items end).colour =
      it.rise at end (omega arith) (omega arith) in
      let v : (item_at items end).colour ≤ (item_at items t).colour = it.rise end t a b in
      omega arith;
}

-- before its end stand lesser colours than behind it
pub before-end : (items : List Item) (at end : ℕ) → IsStretch items at end → end < length items →
    (s : ℕ) → s < end → (item_at items s).colour < (item_at items end).colour
before-end items at end it l s h = elim (cases_lt s at) [
  | inl b ↦ (let u : (item_at items s).colour < (item_at items at).colour = it.before s b in
      let v : (item_at items at).colour < (item_at items end).colour =
      it.after end (omega arith) l in
      omega arith)
  | inr b ↦ (let u : (item_at items s).colour ≡ (item_at items at).colour = it.alike s b h in
      let v : (item_at items at).colour < (item_at items end).colour =
      it.after end (omega arith) l in
      omega arith)
]

-- a run of a colour that wasn't left out joins with all others
pub other-run-joined : (rest : List Order) (items : List Item) → AreItems rest items →
    (out : List ℕ) (at end : ℕ) → IsStretch items at end →
    holds (item_at items at).colour out ≡ false → (i : ℕ) →
    joined_in rest items out at i ≡ joined_in rest items out end i
other-run-joined rest items it out at end run n i =
    let whole : at + (end - at) ≡ end = (let s : at < end = run.some in omega arith) in
    subst (λ t. joined_in rest items out at i ≡ joined_in rest items out t i) whole
    (go (end - at) (omega arith))
  where
    go : (d : ℕ) → d ≤ end - at →
        joined_in rest items out at i ≡ joined_in rest items out (at + d) i
    go zero h =
        let e : at ≡ at + 0 = omega arith in
        ap (λ t. joined_in rest items out t i) e
    go (suc d) h =
        let t = at + d in
        let below : t < end = omega arith in
        let inside : t < length items = (let e : end ≤ length items = run.ends in omega arith) in
        let e : t + 1 ≡ at + suc d = omega arith in
        let alike : colour_at rest (item_at items t).place ≡ (item_at items at).colour =
        sym (it.coloured t inside) ∙ run.alike t (omega arith) below in
        go d (omega arith)
        ∙ other-joined rest items it out t inside (ap (λ x. holds x out) alike ∙ n) i
        ∙ ap (λ s. joined_in rest items out s i) e

module _ (rest : List Order) (items : List Item) (it : AreItems rest items) (letting : Letting)
    (at end : ℕ) (run : IsStretch items at end) where
  abbrev its : ℕ
  its = (item_at items at).colour

  -- an order that is among the items up to the end is among those before, or of the colour
  among-end : (i : ℕ) → placed items end i ≡ true →
      (placed items at i ≡ true) ⊎ (colour_at rest i ≡ its)
  among-end i h =
      let r = placed-at items end i h in
      elim (cases_lt r.0 at) [
        | inl b ↦ inl (subst (λ j. placed items at j ≡ true) r.3 (place-placed items at r.0 b r.2))
        | inr b ↦ inr (subst (λ j. colour_at rest j ≡ its) r.3
            (sym (it.coloured r.0 r.2) ∙ run.alike r.0 b r.1))
      ]

  turned : (b : Bool) → not b ≡ true → b ≡ true → ⊥
  turned true h k = cc
  turned false h k = cc

  -- what is let in with the items before the run is let in with those up to its end
  still : (i : ℕ) → let_in rest items letting at i ≡ true → let_in rest items letting end i ≡ true
  still i h = elim (or-cases (others rest letting.before i)
      (others rest letting.after i && placed items at i) h) [
        | inl a ↦ or-left (others rest letting.before i) _ a
        | inr a ↦ or-right (others rest letting.before i) _
            (both (others rest letting.after i) (placed items end i)
            (and-left (others rest letting.after i) (placed items at i) a)
            (placed-wider rest items it at end i (let s : at < end = run.some in omega arith)
            (and-right (others rest letting.after i) (placed items at i) a)))
      ]

  -- and the other way round, but for the orders of the run's colour
  back : (i : ℕ) → let_in rest items letting end i ≡ true →
      (let_in rest items letting at i ≡ true)
      ⊎ ((colour_at rest i ≡ its) × (others rest letting.after i ≡ true))
  back i h = elim (or-cases (others rest letting.before i)
      (others rest letting.after i && placed items end i) h) [
        | inl a ↦ inl (or-left (others rest letting.before i) _ a)
        | inr a ↦ (let d : others rest letting.after i ≡ true =
            and-left (others rest letting.after i) (placed items end i) a in
            elim (among-end i (and-right (others rest letting.after i) (placed items end i) a)) [
              | inl q ↦ inl (or-right (others rest letting.before i) _
                  (both (others rest letting.after i) (placed items at i) d q))
              | inr q ↦ inr (q, d)
            ])
      ]

  -- a colour that is still left out lets nothing in
  pub run-out : holds its letting.after ≡ true → (i : ℕ) → i < length rest →
      let_in rest items letting at i ≡ let_in rest items letting end i
  run-out o i b =
      equal-tests (let_in rest items letting at i) (let_in rest items letting end i) (still i) (λ h.
      elim (back i h) [
        | inl q ↦ q
        | inr q ↦ absurd (turned (owned rest letting.after i) q.1 (rw q.0 o))
      ])

  -- nor does a colour that was let in before
  pub run-in : holds its letting.before ≡ false → (i : ℕ) → i < length rest →
      let_in rest items letting at i ≡ let_in rest items letting end i
  run-in o i b =
      equal-tests (let_in rest items letting at i) (let_in rest items letting end i) (still i) (λ h.
      elim (back i h) [
        | inl q ↦ q
        | inr q ↦ or-left (others rest letting.before i) _ (rw (q.0, o) refl)
      ])

  -- another colour is let in whole
  pub run-new : holds its letting.before ≡ true → holds its letting.after ≡ false →
      IsRun rest items letting at end its
  run-new w n = record {
    order = (let s : at < end = run.some in omega arith);
    ends = run.ends;
    alike = λ t a b.
        sym (it.coloured t (let e : end ≤ length items = run.ends in omega arith))
        ∙ run.alike t a b;
    was_out = w;
    not_out = n;
    next = record {
      new = λ i b h. elim (or-cases (others rest letting.before i)
          (others rest letting.after i && placed items at i) h) [
            | inl a ↦ ne_eqb (colour_at rest i) its
                (λ q. turned (owned rest letting.before i) a (rw q w))
            | inr a ↦ (let r = placed-at items at i
                (and-right (others rest letting.after i) (placed items at i) a) in
                let l : (item_at items r.0).colour < its = run.before r.0 r.1 in
                let e : (item_at items r.0).colour ≡ colour_at rest i =
                it.coloured r.0 r.2 ∙ ap (colour_at rest) r.3 in
                ne_eqb (colour_at rest i) its (λ q. absurd (omega arith)))
          ];
      kept = λ i b h. still i h;
      only = λ i b h e. elim (back i h) [
        | inl q ↦ q
        | inr q ↦ absurd (clash (eqb (colour_at rest i) its)
            (eq-eqb (colour_at rest i) its q.0) e)
      ];
    };
  }

-- A run of one item, which comes into a layer from the one below in one pass.
pub layer-single : (rest : List Order) (prices : List ℤ) (items : List Item) →
    AreItems rest items → length prices ≡ length rest → (letting : Letting) (t colour k width : ℕ) →
    t < length items → IsRun rest items letting t (t + 1) colour → (below here new : ℕ → Option ℤ) →
    ((l : ℕ) → l < width →
    new l ≡ cond (leb (get_or rest (item_at items t).place nobody).weight l)
    (better (here l) (with_price (get_or prices (item_at items t).place (pos 0))
    (below (l - (get_or rest (item_at items t).place nobody).weight)))) (here l)) →
    IsTable (let_in rest items letting t) [] k rest prices width below →
    IsTable (let_in rest items letting t) [] (suc k) rest prices width here →
    IsTable (let_in rest items letting (t + 1)) [] (suc k) rest prices width new
layer-single rest prices items it same letting t colour k width h run below here new e p q l b =
    let j = (item_at items t).place in
    let inside : j < length rest = it.inside t h in
    let its : colour_at rest j ≡ colour = run.alike t (omega arith) (omega arith) in
    let w : holds (colour_at rest j) letting.before ≡ true = rw its run.was_out in
    let n : holds (colour_at rest j) letting.after ≡ false = rw its run.not_out in
    let next = next-let_in rest items it letting t h w n in
    let from_run : IsNextColour rest (let_in rest items letting t) (let_in rest items letting (t +
    1))
    (colour_at rest j) =
    subst (λ c. IsNextColour rest (let_in rest items letting t) (let_in rest items letting (t + 1))
    c)
    (sym its) run.next in
    elim (either (leb (get_or rest j nobody).weight l)) [
      | inl s ↦ subst (λ x. IsBest (let_in rest items letting (t + 1)) [] (suc k) rest prices l x)
          (sym (rw s at (e l b)))
          (single-added rest (let_in rest items letting t) (let_in rest items letting (t + 1)) []
          prices
          same j inside next from_run refl k l (leb-true _ _ s) (here l) (below l)
          (below (l - (get_or rest j nobody).weight)) (q l b) (p l b)
          (p (l - (get_or rest j nobody).weight) (omega arith)))
      | inr s ↦ subst (λ x. IsBest (let_in rest items letting (t + 1)) [] (suc k) rest prices l x)
          (sym (rw s at (e l b)))
          (single-heavy rest (let_in rest items letting t) (let_in rest items letting (t + 1)) []
          prices
          same j inside next from_run refl k l (leb-false _ _ s) (here l) (below l) (q l b)
          (p l b))
    ]
