-- A move of two slabs.
use Rattle.std.proofs.Common.{ℕ, zero, suc, ◌+◌, ◌<◌, ◌≤◌, ◌≡◌, ◌≢◌, ◌⊎◌, Bool, true, false, ◌||◌}
use Rattle.std.proofs.Common.{not, List, [], ◌∷◌, map, length, eqb, leb, ltb, refl, sym, ap, ap₂}
use Rattle.std.proofs.Common.{◌∙◌, arith, inl, inr, subst, leb-true, eq-eqb, eqb-true, ne_eqb}
use Rattle.std.proofs.Common.{lt-ltb, ltb-true, false-eqb, eq-or-lt_of_le}
use Rattle.std.specs.List.{All, list_all}
use Rattle.std.proofs.lemmas.List.Elements.{All-from_get_or}
use Rattle.list_laws.specs.Sets.{chosen, holds, total}
use Rattle.mill_model.specs.Slab.{Mill, load, legal}
use Rattle.mill_model.specs.Plan.{slab, loss, numbers_each, IsLegalPlan}
use Rattle.mill_model.specs.Pairs.{complement, one_of, pair_loss, pair_orders, split_loss}
use Rattle.mill_model.specs.Pairs.{legal_split}
use Rattle.mill_model.specs.declared.order.Order.{Order}
use Rattle.list_laws.proofs.Tests.{and-left, and-right, clash, last-or-below, either, or-cases}
use Rattle.list_laws.proofs.Tests.{or-right}
use Rattle.list_laws.proofs.Sums.{total-cong, total-zero, each_below-at, each_below-from}
use Rattle.large_moves.specs.Moves.{split_plan, IsSecond}
use Rattle.pair_split.specs.Splits.{IsCheapestSplit, grouped, front, colours_in}
use Rattle.pair_split.proofs.Front.{chosen-lacks}
use Rattle.index_links.specs.Lists.{plan_of}
use Rattle.index_links.proofs.Members.{plan-count}
use Rattle.plan_check.proofs.Slabs.{each-below, each-length}
use Rattle.large_moves.specs.Laid.{StayElsewhere}
use Rattle.large_moves.proofs.LaidAnew.{slab-first, slab-second, slab-other, marks-other}
use Rattle.large_moves.proofs.LaidAnew.{split-length, split-below, total-two}

pub eq-either : (s a : ℕ) → (s ≡ a) ⊎ (s ≢ a)
eq-either s a =
    elim (either (eqb s a)) [
      | inl e ↦ inl (eqb-true s a e)
      | inr e ↦ inr (λ q. false-eqb s a (sym e) q)
    ]

pub unused-empty : (s : ℕ) (plan : List ℕ) (orders : List Order) → holds s plan ≡ false →
    slab s plan orders ≡ []
unused-empty s [] orders h = refl
unused-empty s (t ∷ plan) [] h = refl
unused-empty s (t ∷ plan) (o ∷ orders) h =
    let e : eqb s t ≡ false = grind arith in
    let k : holds s plan ≡ false = grind arith in
    rw e (unused-empty s plan orders k)

-- a legal split of some orders that loses less than a bound
pub record IsBetterSplit (mill : Mill) (charge : ℕ → ℕ) (bound : ℕ) (orders : List Order)
    (marks : List Bool) : Type 0 where
  pub whole : length marks ≡ length orders
  pub is_legal : legal_split mill orders marks ≡ true
  pub less : split_loss charge orders marks < bound

module _ (mill : Mill) (charge : ℕ → ℕ) (orders : List Order) (plan : List ℕ) (kind : ℕ → Bool)
    (a c : ℕ) (ka : kind a ≡ true) (ne : a ≢ c) (hc : (kind c ≡ true) ⊎ (holds c plan ≡ false))
    (only : (s : ℕ) → s ≢ a → s ≢ c → kind s ≡ false) (x : a < length orders)
    (y : c < length orders) (h : IsLegalPlan mill orders plan) (bound : ℕ) (set : List Bool)
    (best : IsBetterSplit mill charge bound (chosen (map kind plan) orders) set)
    (old : bound ≤ charge (load (slab a plan orders)) + charge (load (slab c plan orders))) where
  same : length plan ≡ length orders
  same = eqb-true _ _ (and-left (eqb (length plan) (length orders)) _ h.each)

  first-is : slab a (split_plan kind set a c plan) orders
      ≡ chosen set (chosen (map kind plan) orders)
  first-is = slab-first kind a c ka ne set plan orders

  second-is : slab c (split_plan kind set a c plan) orders
      ≡ chosen (complement set) (chosen (map kind plan) orders)
  second-is = slab-second kind a c ne set plan orders same best.whole hc

  slab-legal : (s : ℕ) → s < length orders →
      legal mill (slab s (split_plan kind set a c plan) orders) ≡ true
  slab-legal s l = elim (eq-either s a) [
    | inl e ↦ subst (λ s. legal mill (slab s (split_plan kind set a c plan) orders) ≡ true) (sym e)
        (subst (λ l. legal mill l ≡ true) (sym first-is)
        (and-left _ (legal mill (chosen (complement set) (chosen (map kind plan) orders)))
        best.is_legal))
    | inr n ↦ elim (eq-either s c) [
      | inl e ↦ subst (λ s. legal mill (slab s (split_plan kind set a c plan) orders) ≡ true)
          (sym e) (subst (λ l. legal mill l ≡ true) (sym second-is)
          (and-right (legal mill (chosen set (chosen (map kind plan) orders))) _ best.is_legal))
      | inr m ↦ subst (λ l. legal mill l ≡ true)
          (sym (slab-other kind a c s (only s n m) n m set plan orders))
          (each_below-at (length orders) (λ s. legal mill (slab s plan orders)) s h.slabs l)
    ]
  ]

  pub moved-legal : IsLegalPlan mill orders (split_plan kind set a c plan)
  moved-legal =
      let e : eqb (length (split_plan kind set a c plan)) (length orders) ≡ true =
      eq-eqb _ _ (split-length kind a c set plan ∙ same) in
      let b : list_all (λ s. ltb s (length orders)) (split_plan kind set a c plan) ≡ true =
      split-below kind a c (length orders) x y set plan
      (and-right (eqb (length plan) (length orders)) _ h.each) in
      record { each = rw (e, b) refl; slabs = each_below-from (length orders) _ slab-legal }

  pub moved-less : loss charge (split_plan kind set a c plan) orders < loss charge plan orders
  moved-less =
      let t : loss charge plan orders
      + (charge (load (slab a (split_plan kind set a c plan) orders))
      + charge (load (slab c (split_plan kind set a c plan) orders)))
      ≡ loss charge (split_plan kind set a c plan) orders
      + (charge (load (slab a plan orders)) + charge (load (slab c plan orders))) =
      total-two (length orders) (λ s. charge (load (slab s plan orders)))
      (λ s. charge (load (slab s (split_plan kind set a c plan) orders))) a c x y ne (λ s l n m.
      ap (λ l. charge (load l)) (sym (slab-other kind a c s (only s n m) n m set plan orders))) in
      let f : charge (load (slab a (split_plan kind set a c plan) orders))
      ≡ charge (load (chosen set (chosen (map kind plan) orders))) =
      ap (λ l. charge (load l)) first-is in
      let g : charge (load (slab c (split_plan kind set a c plan) orders))
      ≡ charge (load (chosen (complement set) (chosen (map kind plan) orders))) =
      ap (λ l. charge (load l)) second-is in
      let k : charge (load (chosen set (chosen (map kind plan) orders)))
      + charge (load (chosen (complement set) (chosen (map kind plan) orders))) < bound =
      best.less in
      omega (arith, t, f, g, k, old)

-- there is a slab that is not used, where one has two orders
total-grows : (n : ℕ) (f g : ℕ → ℕ) (t : ℕ) → t < n → f t ≡ suc (g t) →
    ((s : ℕ) → s < n → s ≢ t → f s ≡ g s) → total n f ≡ suc (total n g)
total-grows zero f g t l e h = absurd (omega arith)
total-grows (suc n) f g t l e h = elim (last-or-below t n l) [
  | inl q ↦ (let a : total n f ≡ total n g =
      total-cong n f g (λ s k. h s (omega arith) (λ r. absurd (same s k r q))) in
      let b : f n ≡ suc (g n) = subst (λ n. f n ≡ suc (g n)) q e in
      omega (arith, a, b))
  | inr k ↦ (let ih : total n f ≡ suc (total n g) =
      total-grows n f g t k e (λ s q. h s (omega arith)) in
      let b : f n ≡ g n = h n (omega arith) (λ r. absurd (larger r k)) in
      omega (arith, ih, b))
]
  where
    same : (s : ℕ) → s < n → s ≡ t → t ≡ n → ⊥
    same s k r q = absurd (omega arith)

    larger : n ≡ t → t < n → ⊥
    larger r k = absurd (omega arith)

lengths-add : (n : ℕ) (plan : List ℕ) (orders : List Order) → length plan ≡ length orders →
    list_all (λ s. ltb s n) plan ≡ true →
    total n (λ s. length (slab s plan orders)) ≡ length orders
lengths-add n [] [] e h = total-zero n
lengths-add n [] (o ∷ orders) e h = absurd (omega arith)
lengths-add n (t ∷ plan) [] e h = absurd (omega arith)
lengths-add n (t ∷ plan) (o ∷ orders) e h =
    let ih : total n (λ s. length (slab s plan orders)) ≡ length orders =
    lengths-add n plan orders (omega arith) (and-right (ltb t n) _ h) in
    let g : total n (λ s. length (slab s (t ∷ plan) (o ∷ orders)))
    ≡ suc (total n (λ s. length (slab s plan orders))) =
    total-grows n (λ s. length (slab s (t ∷ plan) (o ∷ orders))) (λ s. length (slab s plan orders))
    t (ltb-true t n (and-left (ltb t n) _ h)) here away in
    g ∙ ap suc ih
  where
    here : length (slab t (t ∷ plan) (o ∷ orders)) ≡ suc (length (slab t plan orders))
    here = let e : eqb t t ≡ true = eq-eqb t t refl in rw e refl

    away : (s : ℕ) → s < n → s ≢ t →
        length (slab s (t ∷ plan) (o ∷ orders)) ≡ length (slab s plan orders)
    away s l ne = let e : eqb s t ≡ false = ne_eqb s t ne in rw e refl

total-low : (n : ℕ) (f : ℕ → ℕ) → ((s : ℕ) → s < n → 1 ≤ f s) → n ≤ total n f
total-low zero f h = omega arith
total-low (suc n) f h =
    let ih : n ≤ total n f = total-low n f (λ s l. h s (omega arith)) in
    let b : 1 ≤ f n = h n (omega arith) in
    omega (arith, ih, b)

total-more : (n : ℕ) (f : ℕ → ℕ) (a : ℕ) → a < n → 2 ≤ f a → ((s : ℕ) → s < n → 1 ≤ f s) →
    n < total n f
total-more zero f a l t h = absurd (omega arith)
total-more (suc n) f a l t h = elim (last-or-below a n l) [
  | inl q ↦ (let b : n ≤ total n f = total-low n f (λ s l. h s (omega arith)) in
      let d : 2 ≤ f n = subst (λ n. 2 ≤ f n) q t in
      omega (arith, b, d))
  | inr k ↦ (let ih : n < total n f = total-more n f a k t (λ s l. h s (omega arith)) in
      let b : 1 ≤ f n = h n (omega arith) in
      omega (arith, ih, b))
]

used-length : (s : ℕ) (plan : List ℕ) (orders : List Order) → length plan ≡ length orders →
    holds s plan ≡ true → 1 ≤ length (slab s plan orders)
used-length s [] orders e h = absurd (cc)
used-length s (t ∷ plan) [] e h = absurd (omega arith)
used-length s (t ∷ plan) (o ∷ orders) e h = elim (either (eqb s t)) [
  | inl q ↦ rw q (omega arith)
  | inr q ↦ rw q (used-length s plan orders (omega arith) (rw q at h))
]

-- a split that betters one slab has two orders at least
two-orders : (charge : ℕ → ℕ) → charge 0 ≡ 0 → (items : List Order) (set : List Bool) →
    length set ≡ length items → split_loss charge items set < charge (load items) →
    2 ≤ length items
two-orders charge z [] [] e l =
    let k : charge 0 + charge 0 < charge 0 = l in absurd (omega (arith, z, k))
two-orders charge z [] (m ∷ set) e l = absurd (omega arith)
two-orders charge z (o ∷ []) [] e l = absurd (omega arith)
two-orders charge z (o ∷ []) (true ∷ []) e l =
    let k : charge (o.weight + 0) + charge 0 < charge (o.weight + 0) = l in
    absurd (omega (arith, k))
two-orders charge z (o ∷ []) (false ∷ []) e l =
    let k : charge 0 + charge (o.weight + 0) < charge (o.weight + 0) = l in
    absurd (omega (arith, k))
two-orders charge z (o ∷ []) (m ∷ n ∷ set) e l = absurd (omega arith)
two-orders charge z (o ∷ q ∷ items) set e l = omega arith

-- the orders of one slab
pub one-slab : (a : ℕ) (plan : List ℕ) → map (one_of a a) plan ≡ map (λ t. eqb a t) plan
one-slab a [] = refl
one-slab a (t ∷ plan) = ap₂ (λ x y. x ∷ y) (flip (eq-either t a)) (one-slab a plan)
  where
    flip : (t ≡ a) ⊎ (t ≢ a) → (eqb t a || (eqb t a || false)) ≡ eqb a t
    flip (inl e) =
        let x : eqb t a ≡ true = eq-eqb t a e in
        let y : eqb a t ≡ true = eq-eqb a t (sym e) in
        rw (x, y) refl
    flip (inr n) =
        let x : eqb t a ≡ false = ne_eqb t a n in
        let y : eqb a t ≡ false = ne_eqb a t (λ q. n (sym q)) in
        rw (x, y) refl

pub some-free : (mill : Mill) (charge : ℕ → ℕ) → charge 0 ≡ 0 →
    (orders : List Order) (plan : List ℕ) (a bound : ℕ) → a < length orders →
    IsLegalPlan mill orders plan → bound ≤ charge (load (slab a plan orders)) → (set : List Bool) →
    IsBetterSplit mill charge bound (chosen (map (one_of a a) plan) orders) set →
    ((s : ℕ) → s < length orders → holds s plan ≡ true) → ⊥
some-free mill charge z orders plan a bound l h low set best used =
    let e : length plan ≡ length orders =
    eqb-true _ _ (and-left (eqb (length plan) (length orders)) _ h.each) in
    let b : IsBetterSplit mill charge bound (slab a plan orders) set =
    subst (λ ms. IsBetterSplit mill charge bound (chosen ms orders) set) (one-slab a plan) best in
    let less : split_loss charge (slab a plan orders) set < bound = b.less in
    let two : 2 ≤ length (slab a plan orders) =
    two-orders charge z (slab a plan orders) set b.whole (omega (arith, less, low)) in
    let more : length orders < total (length orders) (λ s. length (slab s plan orders)) =
    total-more (length orders) (λ s. length (slab s plan orders)) a l two
    (λ s k. used-length s plan orders e (used s k)) in
    let add : total (length orders) (λ s. length (slab s plan orders)) ≡ length orders =
    lengths-add (length orders) plan orders e
    (and-right (eqb (length plan) (length orders)) _ h.each) in
    absurd (omega (arith, more, add))

-- some of grouped orders are grouped
front-stays : (c : ℕ) (rest : List Order) (marks : List Bool) → grouped rest ≡ true →
    front rest ≡ c → holds c (colours_in (chosen marks rest)) ≡ true →
    front (chosen marks rest) ≡ c
front-stays c rest [] g f h = absurd (cc)
front-stays c [] (m ∷ marks) g f h = absurd (cc)
front-stays c (o ∷ rest) (true ∷ marks) g f h = f
front-stays c (o ∷ rest) (false ∷ marks) g f h = elim (or-cases (eqb o.colour (front rest))
    (not (holds o.colour (colours_in rest))) (and-left _ (grouped rest) g)) [
      | inl e ↦ front-stays c rest marks (and-right _ (grouped rest) g)
          (sym (eqb-true _ _ e) ∙ f) h
      | inr e ↦ absurd (clash (holds c (colours_in (chosen marks rest))) h
          (chosen-lacks c rest marks
          (subst (λ c. holds c (colours_in rest) ≡ false) f
          (no (holds o.colour (colours_in rest)) e))))
    ]
  where
    no : (b : Bool) → not b ≡ true → b ≡ false
    no true e = absurd (cc)
    no false e = refl

pub grouped-chosen : (orders : List Order) (marks : List Bool) → grouped orders ≡ true →
    grouped (chosen marks orders) ≡ true
grouped-chosen orders [] g = refl
grouped-chosen [] (m ∷ marks) g = refl
grouped-chosen (o ∷ rest) (false ∷ marks) g =
    grouped-chosen rest marks (and-right _ (grouped rest) g)
grouped-chosen (o ∷ rest) (true ∷ marks) g =
    let ih : grouped (chosen marks rest) ≡ true =
    grouped-chosen rest marks (and-right _ (grouped rest) g) in
    let k : (eqb o.colour (front (chosen marks rest))
    || not (holds o.colour (colours_in (chosen marks rest)))) ≡ true =
    here (either (holds o.colour (colours_in (chosen marks rest)))) in
    rw (k, ih) refl
  where
    or-true : (b : Bool) → (b || true) ≡ true
    or-true true = refl
    or-true false = refl

    lacks : (b : Bool) → not b ≡ true → b ≡ false
    lacks true e = absurd (cc)
    lacks false e = refl

    here : (holds o.colour (colours_in (chosen marks rest)) ≡ true)
        ⊎ (holds o.colour (colours_in (chosen marks rest)) ≡ false) →
        (eqb o.colour (front (chosen marks rest))
        || not (holds o.colour (colours_in (chosen marks rest)))) ≡ true
    here (inr f) = rw f (or-true _)
    here (inl t) = elim (or-cases (eqb o.colour (front rest))
        (not (holds o.colour (colours_in rest))) (and-left _ (grouped rest) g)) [
          | inl e ↦ (let q : front (chosen marks rest) ≡ o.colour =
              front-stays o.colour rest marks (and-right _ (grouped rest) g)
              (sym (eqb-true _ _ e)) t in
              let z : eqb o.colour (front (chosen marks rest)) ≡ true = eq-eqb _ _ (sym q) in
              rw z refl)
          | inr e ↦ absurd (clash _ t (chosen-lacks o.colour rest marks (lacks _ e)))
        ]

pub chosen-length : (marks : List Bool) (orders : List Order) →
    length (chosen marks orders) ≤ length orders
chosen-length [] orders = omega arith
chosen-length (m ∷ marks) [] = omega arith
chosen-length (true ∷ marks) (o ∷ orders) =
    let ih : length (chosen marks orders) ≤ length orders = chosen-length marks orders in
    omega (arith, ih)
chosen-length (false ∷ marks) (o ∷ orders) =
    let ih : length (chosen marks orders) ≤ length orders = chosen-length marks orders in
    omega (arith, ih)

pub legal-load : (mill : Mill) (orders : List Order) (plan : List ℕ) (s : ℕ) →
    IsLegalPlan mill orders plan → s < length orders → load (slab s plan orders) ≤ mill.largest
legal-load mill orders plan s h l =
    leb-true _ _
    (and-left (leb (load (slab s plan orders)) mill.largest) _
    (each_below-at (length orders) (λ s. legal mill (slab s plan orders)) s h.slabs l))

pub reaches : (mill : Mill) (orders : List Order) (plan : List ℕ) (s n : ℕ) →
    IsLegalPlan mill orders plan → s < length orders → n ≡ mill.largest + 1 →
    load (slab s plan orders) < n
reaches mill orders plan s n h l e =
    let b : load (slab s plan orders) ≤ mill.largest = legal-load mill orders plan s h l in
    omega (arith, b, e)

abbrev pub IsBetter : Mill → (ℕ → ℕ) → List Order → List ℕ → List ℕ → Type 0
IsBetter mill charge orders plan new =
    IsLegalPlan mill orders new × (loss charge new orders < loss charge plan orders)

pub move-betters : (mill : Mill) (charge : ℕ → ℕ) → charge 0 ≡ 0 →
    (orders : List Order) (plan : List ℕ) (a b c bound : ℕ) → a ≤ b → b < length orders →
    holds a plan ≡ true → IsLegalPlan mill orders plan → bound ≡ pair_loss charge orders plan a b →
    (set : List Bool) →
    IsBetterSplit mill charge bound (chosen (map (one_of a b) plan) orders) set →
    IsSecond plan a b c → IsBetter mill charge orders plan (split_plan (one_of a b) set a c plan)
move-betters mill charge z orders plan a b c bound rise second used h is set best sec =
    elim (either (ltb a b)) [
      | inl l ↦ two (ltb-true a b l) l
      | inr l ↦ one (alone l) l
    ]
  where
    same : length plan ≡ length orders
    same = eqb-true _ _ (and-left (eqb (length plan) (length orders)) _ h.each)

    alone : ltb a b ≡ false → a ≡ b
    alone l =
        elim (eq-either a b) [
          | inl e ↦ e
          | inr n ↦ absurd (clash (ltb a b) (lt-ltb a b (strict n)) l)
        ]
      where
        strict : a ≢ b → a < b
        strict n = elim (eq-or-lt_of_le {n = a} {m = b} rise) [ inl e ↦ absurd (n e) | inr l ↦ l ]

    ka : one_of a b a ≡ true
    ka = let e : eqb a a ≡ true = eq-eqb a a refl in rw e refl

    two : a < b → ltb a b ≡ true →
        IsBetter mill charge orders plan (split_plan (one_of a b) set a c plan)
    two l t =
        let e : c ≡ b = sec.two l in
        let kb : (eqb b a || (eqb b b || false)) ≡ true = here in
        let kc : one_of a b c ≡ true = subst (λ c. one_of a b c ≡ true) (sym e) kb in
        let ne : a ≢ c = (λ q. absurd (less q e l)) in
        let q : pair_loss charge orders plan a b
        ≡ charge (load (slab a plan orders)) + charge (load (slab b plan orders)) =
        rw t refl in
        let old : bound ≤ charge (load (slab a plan orders)) + charge (load (slab c plan orders)) =
        subst
        (λ c. bound ≤ charge (load (slab a plan orders)) + charge (load (slab c plan orders)))
        (sym e) (omega (arith, is, q)) in
        let only = (λ (s : ℕ) (n : s ≢ a) (m : s ≢ c). others-not s n (λ q. m (q ∙ sym e))) in
        let x : a < length orders = omega (arith, rise, second) in
        let y : c < length orders = omega (arith, e, second) in (
          moved-legal mill charge orders plan (one_of a b) a c ka ne (inl kc) only x y h bound set
              best old,
          moved-less mill charge orders plan (one_of a b) a c ka ne (inl kc) only x y h bound set
              best old,
        )
      where
        less : a ≡ c → c ≡ b → a < b → ⊥
        less q e l = absurd (omega arith)

        here : (eqb b a || (eqb b b || false)) ≡ true
        here = let e : eqb b b ≡ true = eq-eqb b b refl in rw e (or-true (eqb b a))
          where
            or-true : (x : Bool) → (x || true) ≡ true
            or-true true = refl
            or-true false = refl

        others-not : (s : ℕ) → s ≢ a → s ≢ b → one_of a b s ≡ false
        others-not s n m =
            let p : eqb s a ≡ false = ne_eqb s a n in
            let q : eqb s b ≡ false = ne_eqb s b m in
            rw (p, q) refl

    one : a ≡ b → ltb a b ≡ false →
        IsBetter mill charge orders plan (split_plan (one_of a b) set a c plan)
    one l t =
        let f : holds c plan ≡ false = sec.one l in
        let ne : a ≢ c =
        (λ q. clash (holds a plan) used (subst (λ c. holds c plan ≡ false) (sym q) f)) in
        let q : pair_loss charge orders plan a b ≡ charge (load (slab a plan orders)) + 0 =
        rw t refl in
        let e : slab c plan orders ≡ [] = unused-empty c plan orders f in
        let w : charge (load (slab c plan orders)) ≡ 0 = ap (λ l. charge (load l)) e ∙ z in
        let old : bound ≤ charge (load (slab a plan orders)) + charge (load (slab c plan orders)) =
        omega (arith, is, q, w) in
        let only = (λ (s : ℕ) (n : s ≢ a) (m : s ≢ c). others-not s n) in
        let x : a < length orders = omega (arith, rise, second) in
        let y : c < length orders = omega (arith, sec.below, same) in (
          moved-legal mill charge orders plan (one_of a b) a c ka ne (inr f) only x y h bound set
              best old,
          moved-less mill charge orders plan (one_of a b) a c ka ne (inr f) only x y h bound set
              best old,
        )
      where
        others-not : (s : ℕ) → s ≢ a → one_of a b s ≡ false
        others-not s n =
            let p : eqb s a ≡ false = ne_eqb s a n in
            let q : eqb s b ≡ false = ne_eqb s b (λ r. n (r ∙ sym l)) in
            rw (p, q) refl

-- the marked orders of a pair lie on its first slab, and the others on the second
pub split-slabs : (orders : List Order) (plan : List ℕ) (a b c : ℕ) → a ≤ b →
    holds a plan ≡ true → length plan ≡ length orders → (set : List Bool) →
    length set ≡ length (pair_orders orders plan a b) → IsSecond plan a b c →
    (slab a (split_plan (one_of a b) set a c plan) orders
    ≡ chosen set (pair_orders orders plan a b))
    × (slab c (split_plan (one_of a b) set a c plan) orders
    ≡ chosen (complement set) (pair_orders orders plan a b))
split-slabs orders plan a b c rise used same set whole second = (
  slab-first (one_of a b) a c first-one apart set plan orders,
  slab-second (one_of a b) a c apart set plan orders same whole second-one,
)
  where
    first-one : one_of a b a ≡ true
    first-one = let e : eqb a a ≡ true = eq-eqb a a refl in rw e refl

    last-one : one_of a b b ≡ true
    last-one = or-right (eqb b a) (eqb b b || false) (let e : eqb b b ≡ true = eq-eqb b b refl in
        rw e refl)

    apart : a ≢ c
    apart q = elim (eq-or-lt_of_le {n = a} {m = b} rise) [
      | inl e ↦ clash (holds c plan) (subst (λ s. holds s plan ≡ true) q used) (second.one e)
      | inr l ↦ absurd (omega (arith, q, l, second.two l))
    ]

    second-one : (one_of a b c ≡ true) ⊎ (holds c plan ≡ false)
    second-one = elim (eq-or-lt_of_le {n = a} {m = b} rise) [
      | inl e ↦ inr (second.one e)
      | inr l ↦ inl (subst (λ s. one_of a b s ≡ true) (sym (second.two l)) last-one)
    ]

-- a second slab there is
pub second-exists : (mill : Mill) (charge : ℕ → ℕ) → charge 0 ≡ 0 →
    (orders : List Order) (plan : List ℕ) (a b bound : ℕ) → b < length orders →
    IsLegalPlan mill orders plan → bound ≡ pair_loss charge orders plan a b → (set : List Bool) →
    IsBetterSplit mill charge bound (chosen (map (one_of a b) plan) orders) set → a ≡ b →
    ((s : ℕ) → s < length plan → holds s plan ≡ true) → ⊥
second-exists mill charge z orders plan a b bound l h is set best e used =
    let same : length plan ≡ length orders =
    eqb-true _ _ (and-left (eqb (length plan) (length orders)) _ h.each) in
    let f : ltb a b ≡ false = ltb-same e in
    let q : pair_loss charge orders plan a b ≡ charge (load (slab a plan orders)) + 0 =
    rw f refl in
    some-free mill charge z orders plan a bound (omega (arith, l, e)) h (omega (arith, is, q)) set
    (subst (λ b. IsBetterSplit mill charge bound (chosen (map (one_of a b) plan) orders) set)
    (sym e) best) (λ s k. used s (omega (arith, k, same)))
  where
    ltb-same : a ≡ b → ltb a b ≡ false
    ltb-same e = elim (either (ltb a b)) [ inl t ↦ absurd (self (ltb-true a b t) e) | inr f ↦ f ]
      where
        self : a < b → a ≡ b → ⊥
        self x y = absurd (omega arith)

-- the cheapest split of the orders of a pair, where it loses less than a bound
pub better-split : (mill : Mill) (charge : ℕ → ℕ) (orders : List Order) (plan : List ℕ)
    (a b bound cheap : ℕ) (items : List Order) (marks : List Bool) →
    items ≡ pair_orders orders plan a b → IsCheapestSplit mill charge items marks cheap →
    cheap < bound → IsBetterSplit mill charge bound (pair_orders orders plan a b) marks
better-split mill charge orders plan a b bound cheap items marks e best less =
    subst (λ l. IsBetterSplit mill charge bound l marks) e (record {
      whole = best.whole;
      is_legal = best.is_legal;
      less = let l = best.loses in omega (arith, l, less);
    })

-- the other slabs stay
pub others-stay : (plan : List ℕ) (marks : List Bool) (a b c : ℕ) → a ≤ b →
    IsSecond plan a b c → StayElsewhere a c plan (split_plan (one_of a b) marks a c plan)
others-stay plan marks a b c rise second s m n =
    marks-other (one_of a b) a c s apart m n marks plan
  where
    not-b : s ≢ b
    not-b e = elim (eq-or-lt_of_le {n = a} {m = b} rise) [
      | inl q ↦ absurd (m (e ∙ sym q))
      | inr l ↦ absurd (n (e ∙ sym (second.two l)))
    ]

    apart : one_of a b s ≡ false
    apart =
        let p : eqb s a ≡ false = ne_eqb s a m in
        let q : eqb s b ≡ false = ne_eqb s b not-b in
        rw (p, q) refl

pub plan-length : (mill : Mill) (orders : List Order) (plan : List ℕ) →
    IsLegalPlan mill orders plan → length plan ≡ length orders
plan-length mill orders plan h =
    eqb-true _ _ (and-left (eqb (length plan) (length orders)) _ h.each)

-- lists whose plan is one of the orders have their number
pub linked-length : (mill : Mill) (orders : List Order) (lists : List (List ℕ)) →
    IsLegalPlan mill orders (plan_of lists) → length lists ≡ length orders
linked-length mill orders lists h =
    sym (plan-count lists) ∙ plan-length mill orders (plan_of lists) h

-- a plan of some orders gives each a slab below their number
pub plan-below : (plan : List ℕ) (orders : List Order) → numbers_each plan orders ≡ true →
    All (λ s. s < length plan) plan
plan-below plan orders each =
    All-from_get_or (λ s. s < length plan) plan 0
    (λ k l. (let long = each-length plan orders each in
    let low = each-below plan orders k each (omega (arith, l, long)) in
    omega (arith, low, long)))
