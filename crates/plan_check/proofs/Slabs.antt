-- The slabs of a plan's first orders, and what one more order makes of them.
use Rattle.std.proofs.Common.{ℕ, zero, suc, ◌+◌, ◌*◌, ◌<◌, ◌≤◌, ◌≡◌, Bool, true, cond, List, []}
use Rattle.std.proofs.Common.{◌∷◌, ◌++◌, length, take, get_or, set, eqb, ltb, refl, sym, ap, ◌∙◌}
use Rattle.std.proofs.Common.{arith, inl, inr, eqb-true, false-eqb, ltb-true, get_or-set_same}
use Rattle.std.proofs.Common.{get_or-set_other}
use Rattle.std.specs.Prelude.{All}
use Rattle.std.specs.List.{list_all}
use Rattle.std.proofs.lemmas.List.{length-set, get_or_default}
use Rattle.mill_model.specs.Instance.{IsOrder}
use Rattle.mill_model.specs.Slab.{load}
use Rattle.mill_model.specs.Plan.{numbers_each, slab}
use Rattle.mill_model.specs.declared.order.Order.{Order}
use Rattle.list_laws.proofs.Tests.{either, and-left, and-right}
use Rattle.mill_model.proofs.Slabs.{load-append}

-- the order where it goes on the slab, else nothing
abbrev if_on : Bool → Order → List Order
if_on on order = cond on (order ∷ []) []

-- one more order of the plan goes on the slab of its number
slab-more : (s : ℕ) (plan : List ℕ) (orders : List Order) (i : ℕ) (d : Order) →
    i < length plan → length plan ≡ length orders →
    slab s (take (suc i) plan) orders
    ≡ slab s (take i plan) orders ++ if_on (eqb s (get_or plan i 0)) (get_or orders i d)
slab-more s [] orders i d l same = absurd (omega arith)
slab-more s (t ∷ plan) [] i d l same = absurd (omega arith)
slab-more s (t ∷ plan) (order ∷ orders) zero d l same = refl
slab-more s (t ∷ plan) (order ∷ orders) (suc i) d l same =
    let rest = slab-more s plan orders i d (omega arith) (omega arith) in
    elim (either (eqb s t)) [
      | inl e ↦ rw e (ap (λ more. order ∷ more) rest)
      | inr e ↦ rw e rest
    ]

-- what numbers a plan gives: one for each order, each below their number
number-below : (n : ℕ) (plan : List ℕ) (i : ℕ) → list_all (λ s. ltb s n) plan ≡ true →
    i < length plan → get_or plan i 0 < n
number-below n [] i all l = absurd (omega arith)
number-below n (t ∷ plan) zero all l =
    ltb-true t n (and-left (ltb t n) (list_all (λ s. ltb s n) plan) all)
number-below n (t ∷ plan) (suc i) all l =
    number-below n plan i (and-right (ltb t n) (list_all (λ s. ltb s n) plan) all) (omega arith)

pub each-length : (plan : List ℕ) (orders : List Order) → numbers_each plan orders ≡ true →
    length plan ≡ length orders
each-length plan orders each =
    eqb-true _ _ (and-left (eqb (length plan) (length orders)) _ each)

pub each-numbers : (plan : List ℕ) (orders : List Order) → numbers_each plan orders ≡ true →
    list_all (λ s. ltb s (length orders)) plan ≡ true
each-numbers plan orders each = and-right (eqb (length plan) (length orders)) _ each

pub each-below : (plan : List ℕ) (orders : List Order) (i : ℕ) → numbers_each plan orders ≡ true →
    i < length orders → get_or plan i 0 < length orders
each-below plan orders i each l =
    let same : length plan ≡ length orders = each-length plan orders each in
    number-below (length orders) plan i (each-numbers plan orders each) (omega arith)

-- the loads of the slabs of the first i orders
pub record AreLoads (plan : List ℕ) (orders : List Order) (i : ℕ) (loads : List ℕ) : Type 0 where
  pub count : length loads ≡ length orders
  pub each : (s : ℕ) → s < length orders → get_or loads s 0 ≡ load (slab s (take i plan) orders)
  pub small : (s : ℕ) → s < length orders → get_or loads s 0 ≤ i * 1000000

-- the load of a slab after one more order
load-more : (s t w n : ℕ) (loads : List ℕ) (before after : List Order) (order : Order) →
    t < length loads → get_or loads s 0 ≡ load before →
    after ≡ before ++ if_on (eqb s t) order → w ≡ order.weight →
    get_or loads s 0 ≤ n → w ≤ 1000000 →
    (get_or (set loads t (get_or loads t 0 + w)) s 0 ≡ load after)
    × (get_or (set loads t (get_or loads t 0 + w)) s 0 ≤ n + 1000000)
load-more s t w n loads before after order within old more weight small fits =
    elim (either (eqb s t)) [
      | inl e ↦ (let here : s ≡ t = eqb-true s t e in
          let sum : load (before ++ order ∷ []) ≡ load before + (order.weight + 0) =
          load-append before (order ∷ []) in
          let new : get_or (set loads t (get_or loads t 0 + w)) s 0 ≡ get_or loads s 0 + w =
          rw here (get_or-set_same loads t (get_or loads t 0 + w) 0 within) in
          let all : after ≡ before ++ order ∷ [] = rw e at more in
          (rw all (omega (arith, new, old, weight, sum)), omega (arith, new)))
      | inr e ↦ (let new : get_or (set loads t (get_or loads t 0 + w)) s 0 ≡ get_or loads s 0 =
          get_or-set_other loads t s _ 0 (λ q. false-eqb s t (sym e) q) in
          let all : after ≡ before ++ [] = rw e at more in
          let sum : load (before ++ []) ≡ load before + 0 = load-append before [] in
          (rw all (omega (arith, new, old, sum)), omega (arith, new)))
    ]

-- one more order of weight w is weighed, where its slab's load so far is read as `got`
pub loads-more : (plan : List ℕ) (orders : List Order) (i : ℕ) (loads : List ℕ) (d : Order)
    (got w : ℕ) → numbers_each plan orders ≡ true → All IsOrder orders → i < length orders →
    AreLoads plan orders i loads → got ≡ get_or loads (get_or plan i 0) got →
    w ≡ (get_or orders i d).weight →
    (got + w ≤ (i + 1) * 1000000)
    × AreLoads plan orders (i + 1) (set loads (get_or plan i 0) (got + w))
loads-more plan orders i loads d got w each within l before read weight =
    let t : ℕ = get_or plan i 0 in
    let same : length plan ≡ length orders = each-length plan orders each in
    let below : t < length orders = each-below plan orders i each l in
    let in-loads : t < length loads = omega (arith, below, before.count) in
    let now : got ≡ get_or loads t 0 = read ∙ get_or_default loads t got 0 in-loads in
    let fits : w ≤ 1000000 = (let order = within i d l in omega (arith, weight, order.0.1)) in
    let next : i + 1 ≡ suc i = omega arith in
    let on : ℕ → List Order = λ s. slab s (take i plan) orders in
    let on' : ℕ → List Order = λ s. slab s (take (suc i) plan) orders in
    let step : (s : ℕ) → s < length orders →
    (get_or (set loads t (get_or loads t 0 + w)) s 0 ≡ load (on' s))
    × (get_or (set loads t (get_or loads t 0 + w)) s 0 ≤ i * 1000000 + 1000000) =
    λ s here. load-more s t w (i * 1000000) loads (on s) (on' s) (get_or orders i d)
    in-loads (before.each s here) (slab-more s plan orders i d (omega arith) same) weight
    (before.small s here) fits in
    let most : get_or loads t 0 ≤ i * 1000000 = before.small t below in (
      omega (arith, now, most, fits),
      rw now (record {
        count = length-set loads t _ ∙ before.count;
        each = λ s here. rw next ((step s here).0);
        small = λ s here. (let bound = (step s here).1 in omega (arith, bound));
      }),
    )
