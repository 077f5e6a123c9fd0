-- Runs of items: what one item more lets in, and what a whole run does.
use Rattle.std.proofs.Common.{ℕ, zero, suc, ◌+◌, ◌<◌, ◌≡◌, ◌⊎◌, Bool, true, false, not}
use Rattle.std.proofs.Common.{◌&&◌, ◌||◌, List, [], ◌∷◌, ◌++◌, length, get_or, take, eqb, eq-eqb}
use Rattle.std.proofs.Common.{ne_eqb}
use Rattle.std.proofs.Common.{eqb-true, ℤ, pos, Option, None, refl, sym, ap, ◌∙◌}
use Rattle.std.proofs.Common.{subst, arith, inl, inr}
use Rattle.std.proofs.lemmas.List.{take_all}
use Rattle.list_laws.specs.Sets.{holds}
use Rattle.mill_model.specs.declared.order.Order.{Order}
use Rattle.list_laws.proofs.Tests.{equal-tests}
use Rattle.list_laws.proofs.Tests.{and-left, and-right}
use Rattle.list_laws.proofs.Tests.{or-cases, or-left, or-right}
use Rattle.list_laws.proofs.Different.{holds-append}
use Rattle.set_minima.specs.Packs.{nobody, colour_at, IsTable, IsNext}
use Rattle.list_laws.proofs.Tests.{clash}
use Rattle.set_minima.proofs.WholeTables.{table-adds, table-allowed}
use Rattle.set_minima.specs.Cells.{cell}
use Rattle.colour_tables.specs.Threes.{once}
use Rattle.colour_tables.specs.Items.{places, item_at, IsItem, IsRun, let_in}
use Rattle.colour_tables.specs.Colours.{of_colour, of_colour_but, but_for}
use Rattle.colour_tables.specs.declared.items.Item.{Item}
use Rattle.set_minima.proofs.OneCell.{raised}

pub not-true : (b : Bool) → not b ≡ true → b ≡ false
not-true true h = sym h
not-true false h = refl

pub last-place : (run : List Item) (t : ℕ) → t < length run → places (take (suc t) run)
    ≡ places (take t run) ++ (item_at run t).place ∷ []
last-place [] t h = absurd (omega arith)
last-place (item ∷ run) zero h = refl
last-place (item ∷ run) (suc t) h = ap (λ z. item.place ∷ z) (last-place run t (omega arith))

pub has-place : (run : List Item) (t : ℕ) → t < length run →
    holds (item_at run t).place (places run) ≡ true
has-place [] t h = absurd (omega arith)
has-place (item ∷ run) zero h =
    or-left (eqb item.place item.place) _ (eq-eqb item.place item.place refl)
has-place (item ∷ run) (suc t) h =
    or-right (eqb (item_at run t).place item.place) _ (has-place run t (omega arith))

pub no-place-before : (run : List Item) (t : ℕ) → t < length run → once (places run) ≡ true →
    holds (item_at run t).place (places (take t run)) ≡ false
no-place-before [] t h o = absurd (omega arith)
no-place-before (item ∷ run) zero h o = refl
no-place-before (item ∷ run) (suc t) h o =
    let n : holds item.place (places run) ≡ false =
    not-true (holds item.place (places run)) (and-left (not (holds item.place (places run)))
    (once (places run)) o) in
    let m : holds (item_at run t).place (places run) ≡ true = has-place run t (omega arith) in
    let e : eqb (item_at run t).place item.place ≡ false =
    ne_eqb (item_at run t).place item.place (λ q. clash (holds item.place (places run))
    (subst (λ z. holds z (places run) ≡ true) q m) n) in
    rw e (no-place-before run t (omega arith)
    (and-right (not (holds item.place (places run))) (once (places run)) o))

pub holds-last : (run : List Item) (t i : ℕ) → t < length run → holds i (places (take (suc t) run))
    ≡ (holds i (places (take t run)) || eqb i (item_at run t).place)
holds-last run t i h =
    ap (holds i) (last-place run t h)
    ∙ holds-append i (places (take t run)) ((item_at run t).place ∷ [])
    ∙ ap (λ b. holds i (places (take t run)) || b) (end (eqb i (item_at run t).place))
  where
    end : (b : Bool) → (b || false) ≡ b
    end true = refl
    end false = refl

and-cases : (a b : Bool) → (a && b) ≡ true → (a ≡ true) × (b ≡ true)
and-cases true b h = (refl, h)
and-cases false b h = absurd (clash false h refl)

and-true : (a b : Bool) → a ≡ true → b ≡ true → (a && b) ≡ true
and-true true b h k = k
and-true false b h k = h

module _ (before : ℕ → Bool) (run : List Item) (skip : Option ℕ) (t : ℕ)
    (here : t < length run) where
  abbrev p : ℕ
  p = (item_at run t).place

  later : (i : ℕ) → holds i (places (take t run)) ≡ true → holds i (places (take (suc t) run)) ≡
      true
  later i h = holds-last run t i here ∙ or-left (holds i (places (take t run))) _ h

  let-kept : (i : ℕ) → let_in before run skip t i ≡ true → let_in before run skip (suc t) i ≡ true
  let-kept i h =
      elim (or-cases (before i) (holds i (places (take t run)) && but_for skip i) h) [
        | inl a ↦ or-left (before i) _ a
        | inr a ↦ (let q = and-cases (holds i (places (take t run))) (but_for skip i) a in
            or-right (before i) _ (and-true _ _ (later i q.0) q.1))
      ]

  let-cases : (i : ℕ) → let_in before run skip (suc t) i ≡ true →
      (let_in before run skip t i ≡ true) ⊎ ((eqb i p ≡ true) × (but_for skip i ≡ true))
  let-cases i h =
      elim (or-cases (before i) (holds i (places (take (suc t) run)) && but_for skip i) h) [
        | inl a ↦ inl (or-left (before i) _ a)
        | inr a ↦ (let q = and-cases (holds i (places (take (suc t) run))) (but_for skip i) a in
            elim (or-cases (holds i (places (take t run))) (eqb i p)
            (sym (holds-last run t i here) ∙ q.0)) [
              | inl b ↦ inl (or-right (before i) _ (and-true _ _ b q.1))
              | inr b ↦ inr (b, q.1)
            ])
      ]

  -- an item that is not skipped lets its place in
  pub next-let_in : once (places run) ≡ true → before p ≡ false → but_for skip p ≡ true →
      IsNext (let_in before run skip t) (let_in before run skip (suc t)) p
  next-let_in o n s = record {
    new = rw (n, no-place-before run t here o);
    now =
        or-right (before p) _ (and-true _ _ (holds-last run t p here
        ∙ or-right (holds p (places (take t run))) _ (eq-eqb p p refl)) s);
    kept = let-kept;
    only = λ i h e. elim (let-cases i h) [
      | inl a ↦ a
      | inr a ↦ absurd (clash (eqb i p) a.0 e)
    ];
  }

  -- and the one to skip none
  pub same-let_in : but_for skip p ≡ false → (i : ℕ) →
      let_in before run skip t i ≡ let_in before run skip (suc t) i
  same-let_in s i =
      equal-tests (let_in before run skip t i) (let_in before run skip (suc t) i) (let-kept i)
      (λ h. elim (let-cases i h) [
        | inl a ↦ a
        | inr a ↦ absurd (clash (but_for skip i) a.1 (subst (λ z. but_for skip z ≡ false)
            (sym (eqb-true i p a.0)) s))
      ])

-- the item at a place of a run is let in, or is skipped
module _ (rest : List Order) (prices : List ℤ) (c : ℕ) (run : List Item)
    (is : IsRun rest prices c run) (before : ℕ → Bool) (own : List ℕ) (k : ℕ) (skip : Option ℕ)
    (t : ℕ) (paid : holds c own ≡ true) (new : (i : ℕ) → i < length rest →
    holds i (places run) ≡ true → before i ≡ false) (here : t < length run) where
  abbrev item : Item
  item = item_at run t

  pub item-adds : (old now : List ℤ) → but_for skip item.place ≡ true →
      ((l : ℕ) → l < length old → cell now l ≡ raised item.weight item.price old l) →
      IsTable (let_in before run skip t) own k rest prices (length old) (cell old) →
      IsTable (let_in before run skip (t + 1)) own k rest prices (length old) (cell now)
  item-adds old now n e h =
      let i : IsItem rest prices item = is.items t here in
      let m : holds item.place (places run) ≡ true = has-place run t here in
      let col : colour_at rest item.place ≡ c =
      eqb-true (colour_at rest item.place) c (sym (is.whole item.place i.inside) ∙ m) in
      subst (λ z. IsTable (let_in before run skip z) own k rest prices (length old) (cell now))
      (one t) (table-adds rest prices is.same (let_in before run skip t)
      (let_in before run skip (suc t)) own k item.place i.inside
      (next-let_in before run skip t here is.apart (new item.place i.inside m) n)
      (subst (λ z. holds z own ≡ true) (sym col) paid) old now
      (λ l b. e l b ∙ same l i.weighs i.priced) h)
    where
      one : (t : ℕ) → suc t ≡ t + 1
      one t = omega arith

      same : (l : ℕ) → item.weight ≡ (get_or rest item.place nobody).weight →
          item.price ≡ get_or prices item.place (pos 0) →
          raised item.weight item.price old l
          ≡ raised (get_or rest item.place nobody).weight (get_or prices item.place (pos 0)) old l
      same l w q = rw (w, q) refl

  pub item-skipped : (width : ℕ) (best : ℕ → Option ℤ) → but_for skip item.place ≡ false →
      IsTable (let_in before run skip t) own k rest prices width best →
      IsTable (let_in before run skip (t + 1)) own k rest prices width best
  item-skipped width best e h =
      subst (λ z. IsTable (let_in before run skip z) own k rest prices width best)
      (one t) (table-allowed rest prices (let_in before run skip t)
      (let_in before run skip (suc t)) own k width best
      (λ i b. same-let_in before run skip t here e i) h)
    where
      one : (t : ℕ) → suc t ≡ t + 1
      one t = omega arith

-- no item yet
pub first-let_in : (before : ℕ → Bool) (run : List Item) (skip : Option ℕ) (i : ℕ) →
    before i ≡ let_in before run skip 0 i
first-let_in before run skip i = end (before i)
  where
    end : (b : Bool) → b ≡ (b || false)
    end true = refl
    end false = refl

-- all of them
pub run-let_in : (rest : List Order) (prices : List ℤ) (c : ℕ) (run : List Item) →
    IsRun rest prices c run → (before : ℕ → Bool) (skip : Option ℕ) (i : ℕ) →
    i < length rest →
    let_in before run skip (length run) i ≡ (before i || of_colour_but rest c skip i)
run-let_in rest prices c run is before skip i b =
    let e : take (length run) run ≡ run = take_all (length run) run (omega arith) in
    rw (e, is.whole i b) refl

pub self-holds : (c : ℕ) (cs : List ℕ) → holds c (c ∷ cs) ≡ true
self-holds c cs = or-left (eqb c c) (holds c cs) (eq-eqb c c refl)

-- where none is to skip, all orders of the colour are let in
pub none-skipped : (rest : List Order) (c i : ℕ) → of_colour_but rest c None i ≡ of_colour rest c i
none-skipped rest c i = end (eqb (colour_at rest i) c)
  where
    end : (b : Bool) → (b && true) ≡ b
    end true = refl
    end false = refl

-- a run is let into a table of orders that do not have its colour
pub run-table : (rest : List Order) (prices : List ℤ) (c : ℕ) (run : List Item) →
    IsRun rest prices c run → (A B : ℕ → Bool) (own : List ℕ) (k : ℕ) (skip : Option ℕ) (n : ℕ)
    (old now : List ℤ) → length old ≡ n →
    ((i : ℕ) → i < length rest → A i ≡ true → eqb (colour_at rest i) c ≡ false) →
    ((i : ℕ) → i < length rest → (A i || of_colour_but rest c skip i) ≡ B i) →
    IsTable A own k rest prices n (cell old) →
    (((i : ℕ) → i < length rest → holds i (places run) ≡ true → A i ≡ false) →
    IsTable A own k rest prices (length old) (cell old) →
    IsTable (let_in A run skip (length run)) own k rest prices (length old) (cell now)) →
    IsTable B own k rest prices n (cell now)
run-table rest prices c run is A B own k skip n old now w not-own same p add =
    table-allowed rest prices (let_in A run skip (length run)) B own k n (cell now)
    (λ i b. run-let_in rest prices c run is A skip i b ∙ same i b)
    (subst (λ z. IsTable (let_in A run skip (length run)) own k rest prices z (cell now)) w
    (add (λ i b h. none i b h (A i) refl)
    (subst (λ z. IsTable A own k rest prices z (cell old)) (sym w) p)))
  where
    none : (i : ℕ) → i < length rest → holds i (places run) ≡ true → (b : Bool) → A i ≡ b →
        A i ≡ false
    none i b h false e = e
    none i b h true e =
        absurd (clash (eqb (colour_at rest i) c) (sym (is.whole i b) ∙ h) (not-own i b e))
