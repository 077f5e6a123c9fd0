-- Items: which orders are among the first of them, and what one item or one run more lets in.
use Rattle.std.proofs.Common.{ℕ, zero, suc, ◌+◌, ◌<◌, ◌≤◌, ◌≡◌, ◌≢◌, ◌⊎◌, Bool, true, false, ◌&&◌}
use Rattle.std.proofs.Common.{not, ◌||◌, List, [], ◌∷◌, length, eqb, eq-eqb, ne_eqb, eqb-true, refl}
use Rattle.std.proofs.Common.{sym, ap, ◌∙◌, subst, arith, inl, inr}
use Rattle.std.proofs.lemmas.Bool.{cases_lt}
use Rattle.list_laws.specs.Sets.{holds}
use Rattle.mill_model.specs.declared.order.Order.{Order}
use Rattle.list_laws.proofs.Tests.{and-left, and-right, either, or-cases, or-left, or-right, clash}
use Rattle.list_laws.proofs.Tests.{equal-tests}
use Rattle.set_minima.specs.Packs.{colour_at, IsNext}
use Rattle.set_minima.specs.Joins.{all_but}
use Rattle.knap_bound.specs.Items.{item_at, AreItems, placed, owned, others, joined_in, let_in}
use Rattle.knap_bound.specs.Items.{IsStretch, IsRun, no_place}
use Rattle.knap_bound.specs.declared.orders_by_colour.Item.{Item}

-- what is among the first items stands at a place below
pub placed-at : (items : List Item) (t i : ℕ) → placed items t i ≡ true →
    (s : ℕ) × (s < t) × (s < length items) × ((item_at items s).place ≡ i)
placed-at items zero i h = absurd (grind arith)
placed-at [] (suc t) i h = absurd (grind arith)
placed-at (item ∷ items) (suc t) i h =
    elim (or-cases (eqb i item.place) (placed items t i) h) [
      | inl e ↦ (0, omega arith, omega arith, sym (eqb-true i item.place e))
      | inr k ↦ (let r = placed-at items t i k in
          (suc r.0, omega (arith, r.1), omega (arith, r.2), r.3))
    ]

pub place-placed : (items : List Item) (t s : ℕ) → s < t → s < length items →
    placed items t (item_at items s).place ≡ true
place-placed items zero s h k = absurd (omega arith)
place-placed [] (suc t) s h k = absurd (omega arith)
place-placed (item ∷ items) (suc t) zero h k =
    or-left (eqb item.place item.place) _ (eq-eqb item.place item.place refl)
place-placed (item ∷ items) (suc t) (suc s) h k =
    or-right (eqb (item_at items s).place item.place) _
    (place-placed items t s (omega arith) (omega arith))

both : (a b : Bool) → a ≡ true → b ≡ true → (a && b) ≡ true
both true b h k = k
both false b h k = h

clashing : (a b : ℕ) → eqb a b ≡ false → a ≢ b
clashing a b e q = let z : eqb a b ≡ true = eq-eqb a b q in clash (eqb a b) z e

-- a place is the skipped one or not
pub is-kept : (skip j : ℕ) → j ≢ skip → all_but skip j ≡ true
is-kept skip j n = let e : eqb j skip ≡ false = ne_eqb j skip n in rw e

pub is-skipped : (skip j : ℕ) → j ≡ skip → all_but skip j ≡ false
is-skipped skip j q = let e : eqb j skip ≡ true = eq-eqb j skip q in rw e

module _ (rest : List Order) (items : List Item) (it : AreItems rest items) where
  -- an item is not among those before it
  pub not-placed : (t : ℕ) → t < length items → placed items t (item_at items t).place ≡ false
  not-placed t h = go (placed items t (item_at items t).place) refl
    where
      go : (b : Bool) → placed items t (item_at items t).place ≡ b →
          placed items t (item_at items t).place ≡ false
      go false e = e
      go true e =
          let r = placed-at items t (item_at items t).place e in
          absurd (clashing (item_at items r.0).place (item_at items t).place
          (it.apart r.0 t r.1 h) r.3)

  placed-more : (t i : ℕ) → placed items t i ≡ true → placed items (t + 1) i ≡ true
  placed-more t i h =
      let r = placed-at items t i h in
      subst (λ j. placed items (t + 1) j ≡ true) r.3
      (place-placed items (t + 1) r.0 (omega (arith, r.1)) r.2)

  pub placed-wider : (s t i : ℕ) → s ≤ t → placed items s i ≡ true → placed items t i ≡ true
  placed-wider s t i l h =
      let r = placed-at items s i h in
      subst (λ j. placed items t j ≡ true) r.3
      (place-placed items t r.0 (omega (arith, r.1)) r.2)

  placed-less : (t i : ℕ) → t < length items → placed items (t + 1) i ≡ true →
      eqb i (item_at items t).place ≡ false → placed items t i ≡ true
  placed-less t i l h n =
      let r = placed-at items (t + 1) i h in
      elim (cases_lt r.0 t) [
        | inl b ↦ subst (λ j. placed items t j ≡ true) r.3 (place-placed items t r.0 b r.2)
        | inr b ↦ (let e : r.0 ≡ t = omega (arith, r.1) in
            absurd (clash (eqb i (item_at items t).place)
            (eq-eqb i (item_at items t).place (sym (subst (λ s.
            (item_at items s).place ≡ i) e r.3)))
            n))
      ]

  pub placed-all : (t i : ℕ) → length items ≤ t → i < length rest → placed items t i ≡ true
  placed-all t i l h =
      let r = it.all i h in
      subst (λ j. placed items t j ≡ true) r.2 (place-placed items t r.0 (omega (arith, r.1)) r.1)

  -- other orders are among the first items as before
  same-placed : (t i : ℕ) → t < length items → eqb i (item_at items t).place ≡ false →
      placed items t i ≡ placed items (t + 1) i
  same-placed t i l n =
      equal-tests (placed items t i) (placed items (t + 1) i) (placed-more t i)
      (λ h. placed-less t i l h n)

  -- one item more of the orders whose colours aren't left out
  pub next-let_in : (out : List ℕ) (skip t : ℕ) → t < length items →
      holds (colour_at rest (item_at items t).place) out ≡ false →
      all_but skip (item_at items t).place ≡ true →
      IsNext (let_in rest items out skip t) (let_in rest items out skip (t + 1))
      (item_at items t).place
  next-let_in out skip t l n k = record {
    new = rw (n, k, not-placed t l);
    now = rw (n, k, place-placed items (t + 1) t (omega arith) l);
    kept = λ i h.
        let a : others rest out skip i ≡ true =
        and-left (others rest out skip i) (placed items t i) h in
        let b : placed items t i ≡ true =
        and-right (others rest out skip i) (placed items t i) h in
        both (others rest out skip i) (placed items (t + 1) i) a (placed-more t i b);
    only = λ i h e.
        let a : others rest out skip i ≡ true =
        and-left (others rest out skip i) (placed items (t + 1) i) h in
        let b : placed items (t + 1) i ≡ true =
        and-right (others rest out skip i) (placed items (t + 1) i) h in
        both (others rest out skip i) (placed items t i) a (placed-less t i l b e);
  }

  -- the skipped one lets nothing in
  pub skipped-let_in : (out : List ℕ) (skip t : ℕ) → t < length items →
      all_but skip (item_at items t).place ≡ false → (i : ℕ) →
      let_in rest items out skip t i ≡ let_in rest items out skip (t + 1) i
  skipped-let_in out skip t l k i = elim (either (eqb i (item_at items t).place)) [
    | inl e ↦ (let q : i ≡ (item_at items t).place = eqb-true i (item_at items t).place e in
        let s : all_but skip i ≡ false = rw q k in
        none (not (owned rest out i)) (all_but skip i) (placed items t i) (placed items (t + 1) i)
        s)
    | inr e ↦ ap (λ b. others rest out skip i && b) (same-placed t i l e)
  ]
    where
      none : (a d x y : Bool) → d ≡ false → ((a && d) && x) ≡ ((a && d) && y)
      none true false x y e = refl
      none true true x y e = absurd (clash true refl e)
      none false d x y e = refl

  -- one item more of the orders whose colours were left out
  pub next-joined : (out : List ℕ) (skip t : ℕ) → t < length items →
      holds (colour_at rest (item_at items t).place) out ≡ true →
      all_but skip (item_at items t).place ≡ true →
      IsNext (joined_in rest items out skip t) (joined_in rest items out skip (t + 1))
      (item_at items t).place
  next-joined out skip t l p k = record {
    new = rw (p, not-placed t l);
    now =
        or-right (others rest out skip (item_at items t).place) _
        (both _ _ (place-placed items (t + 1) t (omega arith) l) k);
    kept = λ i h.
        elim (or-cases (others rest out skip i) (placed items t i && all_but skip i) h) [
          | inl a ↦ or-left (others rest out skip i) _ a
          | inr a ↦ or-right (others rest out skip i) _
              (both _ _ (placed-more t i (and-left (placed items t i) (all_but skip i) a))
              (and-right (placed items t i) (all_but skip i) a))
        ];
    only = λ i h e.
        elim (or-cases (others rest out skip i) (placed items (t + 1) i && all_but skip i) h) [
          | inl a ↦ or-left (others rest out skip i) _ a
          | inr a ↦ or-right (others rest out skip i) _
              (both _ _
              (placed-less t i l (and-left (placed items (t + 1) i) (all_but skip i) a) e)
              (and-right (placed items (t + 1) i) (all_but skip i) a))
        ];
  }

  -- one of another colour lets nothing in,
  pub other-joined : (out : List ℕ) (skip t : ℕ) → t < length items →
      holds (colour_at rest (item_at items t).place) out ≡ false → (i : ℕ) →
      joined_in rest items out skip t i ≡ joined_in rest items out skip (t + 1) i
  other-joined out skip t l n i = elim (either (eqb i (item_at items t).place)) [
    | inl e ↦ (let q : i ≡ (item_at items t).place = eqb-true i (item_at items t).place e in
        let s : owned rest out i ≡ false = rw q n in
        there (owned rest out i) (all_but skip i) (placed items t i) (placed items (t + 1) i) s)
    | inr e ↦ ap (λ b. others rest out skip i || (b && all_but skip i)) (same-placed t i l e)
  ]
    where
      there : (a d x y : Bool) → a ≡ false →
          ((not a && d) || (x && d)) ≡ ((not a && d) || (y && d))
      there false true x y e = refl
      there false false true true e = refl
      there false false true false e = refl
      there false false false true e = refl
      there false false false false e = refl
      there true d x y e = absurd (clash true refl e)

  -- nor does the skipped one
  pub skipped-joined : (out : List ℕ) (skip t : ℕ) → t < length items →
      all_but skip (item_at items t).place ≡ false → (i : ℕ) →
      joined_in rest items out skip t i ≡ joined_in rest items out skip (t + 1) i
  skipped-joined out skip t l k i = elim (either (eqb i (item_at items t).place)) [
    | inl e ↦ (let q : i ≡ (item_at items t).place = eqb-true i (item_at items t).place e in
        let s : all_but skip i ≡ false = rw q k in
        none (others rest out skip i) (all_but skip i) (placed items t i)
        (placed items (t + 1) i) s)
    | inr e ↦ ap (λ b. others rest out skip i || (b && all_but skip i)) (same-placed t i l e)
  ]
    where
      none : (a d x y : Bool) → d ≡ false → (a || (x && d)) ≡ (a || (y && d))
      none true d x y e = refl
      none false true x y e = absurd (clash true refl e)
      none false false true true e = refl
      none false false true false e = refl
      none false false false true e = refl
      none false false false false e = refl

  -- so one that is not both of a colour that was left out and kept lets nothing in
  pub unwanted-joined : (out : List ℕ) (skip t : ℕ) → t < length items →
      (all_but skip (item_at items t).place && holds (colour_at rest (item_at items t).place) out)
      ≡ false → (i : ℕ) →
      joined_in rest items out skip t i ≡ joined_in rest items out skip (t + 1) i
  unwanted-joined out skip t l n i = elim (either (all_but skip (item_at items t).place)) [
    | inl k ↦ other-joined out skip t l (rw k at n) i
    | inr k ↦ skipped-joined out skip t l k i
  ]

-- no order is among the first items at first
pub none-let_in : (rest : List Order) (items : List Item) (out : List ℕ) (skip i : ℕ) →
    no_place i ≡ let_in rest items out skip 0 i
none-let_in rest items out skip i = go (others rest out skip i)
  where
    go : (b : Bool) → false ≡ (b && false)
    go true = refl
    go false = refl

pub none-joined : (rest : List Order) (items : List Item) (out : List ℕ) (skip i : ℕ) →
    others rest out skip i ≡ joined_in rest items out skip 0 i
none-joined rest items out skip i = go (others rest out skip i)
  where
    go : (b : Bool) → b ≡ (b || false)
    go true = refl
    go false = refl

-- and in the end all are
pub all-let_in : (rest : List Order) (items : List Item) → AreItems rest items → (out : List ℕ)
    (skip t i : ℕ) → length items ≤ t → i < length rest →
    let_in rest items out skip t i ≡ others rest out skip i
all-let_in rest items it out skip t i l h =
    go (others rest out skip i) (placed items t i) (placed-all rest items it t i l h)
  where
    go : (b p : Bool) → p ≡ true → (b && p) ≡ b
    go true true e = refl
    go false true e = refl
    go b false e = absurd (clash true refl (sym e))

pub all-joined : (rest : List Order) (items : List Item) → AreItems rest items → (out : List ℕ)
    (skip t i : ℕ) → length items ≤ t → i < length rest →
    joined_in rest items out skip t i ≡ all_but skip i
all-joined rest items it out skip t i l h =
    go (not (owned rest out i)) (all_but skip i) (placed items t i)
    (placed-all rest items it t i l h)
  where
    go : (a d p : Bool) → p ≡ true → ((a && d) || (p && d)) ≡ d
    go true true true e = refl
    go true false true e = refl
    go false true true e = refl
    go false false true e = refl
    go a d false e = absurd (clash true refl (sym e))

-- A run of items of one colour.

-- it ends where the colour does, since colours rise
pub stretch-from : (rest : List Order) (items : List Item) → AreItems rest items → (at end : ℕ) →
    at < end → end ≤ length items → ((s : ℕ) → s < at →
    (item_at items s).colour < (item_at items at).colour) →
    ((t : ℕ) → at ≤ t → t < end → (item_at items t).colour ≡ (item_at items at).colour) →
    (end < length items → (item_at items end).colour ≢ (item_at items at).colour) →
    IsStretch items at end
stretch-from rest items it at end some ends before alike other = record {
  some = some;
  ends = ends;
  alike = alike;
  before = before;
  after = λ t a b.
      let n : (item_at items end).colour ≢ (item_at items at).colour = other (omega arith) in
      let u : (item_at items at).colour ≤ (item_at items end).colour =
      it.rise at end (omega arith) (omega arith) in
      let v : (item_at items end).colour ≤ (item_at items t).colour = it.rise end t a b in
      omega arith;
}

-- before its end stand lesser colours than behind it
pub before-end : (items : List Item) (at end : ℕ) → IsStretch items at end → end < length items →
    (s : ℕ) → s < end → (item_at items s).colour < (item_at items end).colour
before-end items at end it l s h = elim (cases_lt s at) [
  | inl b ↦ (let u : (item_at items s).colour < (item_at items at).colour = it.before s b in
      let v : (item_at items at).colour < (item_at items end).colour =
      it.after end (omega arith) l in
      omega arith)
  | inr b ↦ (let u : (item_at items s).colour ≡ (item_at items at).colour = it.alike s b h in
      let v : (item_at items at).colour < (item_at items end).colour =
      it.after end (omega arith) l in
      omega arith)
]

module _ (rest : List Order) (items : List Item) (it : AreItems rest items) (out : List ℕ)
    (skip at end : ℕ) (run : IsStretch items at end) where
  abbrev its : ℕ
  its = (item_at items at).colour

  -- an order that is among the items up to the end is among those before, or of the colour
  among-end : (i : ℕ) → placed items end i ≡ true →
      (placed items at i ≡ true) ⊎ (colour_at rest i ≡ its)
  among-end i h =
      let r = placed-at items end i h in
      elim (cases_lt r.0 at) [
        | inl b ↦ inl (subst (λ j. placed items at j ≡ true) r.3 (place-placed items at r.0 b r.2))
        | inr b ↦ inr (subst (λ j. colour_at rest j ≡ its) r.3
            (sym (it.coloured r.0 r.2) ∙ run.alike r.0 b r.1))
      ]

  -- a colour that is left out lets nothing in
  pub run-out : holds its out ≡ true → (i : ℕ) → i < length rest →
      let_in rest items out skip at i ≡ let_in rest items out skip end i
  run-out o i b =
      equal-tests (let_in rest items out skip at i) (let_in rest items out skip end i)
      (λ h. both (others rest out skip i) (placed items end i)
      (and-left (others rest out skip i) (placed items at i) h)
      (placed-wider rest items it at end i (let s : at < end = run.some in omega arith)
      (and-right (others rest out skip i) (placed items at i) h)))
      (λ h. let a : others rest out skip i ≡ true =
      and-left (others rest out skip i) (placed items end i) h in
      both (others rest out skip i) (placed items at i) a
      (elim (among-end i (and-right (others rest out skip i) (placed items end i) h)) [
        | inl q ↦ q
        | inr q ↦ absurd (turned (owned rest out i)
            (and-left (not (owned rest out i)) (all_but skip i) a) (rw q o))
      ]))
    where
      turned : (b : Bool) → not b ≡ true → b ≡ true → ⊥
      turned true h k = cc
      turned false h k = cc

  -- another colour is let in whole
  pub run-new : holds its out ≡ false → IsRun rest items out skip at end its
  run-new n = record {
    order = (let s : at < end = run.some in omega arith);
    ends = run.ends;
    alike = λ t a b.
        sym (it.coloured t (let e : end ≤ length items = run.ends in omega arith))
        ∙ run.alike t a b;
    not_out = n;
    next = record {
      new = λ i b h.
          let r = placed-at items at i (and-right (others rest out skip i) (placed items at i) h) in
          let l : (item_at items r.0).colour < its = run.before r.0 r.1 in
          let e : (item_at items r.0).colour ≡ colour_at rest i =
          it.coloured r.0 r.2 ∙ ap (colour_at rest) r.3 in
          ne_eqb (colour_at rest i) its (λ q. absurd (omega arith));
      kept = λ i b h. both (others rest out skip i) (placed items end i)
          (and-left (others rest out skip i) (placed items at i) h)
          (placed-wider rest items it at end i (let s : at < end = run.some in omega arith)
          (and-right (others rest out skip i) (placed items at i) h));
      only = λ i b h e. both (others rest out skip i) (placed items at i)
          (and-left (others rest out skip i) (placed items end i) h)
          (elim (among-end i (and-right (others rest out skip i) (placed items end i) h)) [
            | inl q ↦ q
            | inr q ↦ absurd (clash (eqb (colour_at rest i) its)
                (eq-eqb (colour_at rest i) its q) e)
          ]);
    };
  }
