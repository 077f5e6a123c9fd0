-- The loads of the slabs of a plan.
use Rattle.std.proofs.Common.{ℕ, zero, suc, ◌+◌, ◌<◌, ◌≤◌, ◌≡◌, ◌≢◌, Bool, true, false, cond, List}
use Rattle.std.proofs.Common.{[], ◌∷◌, length, take, get_or, set, eqb, ltb, arith, sym, ap, ◌∙◌}
use Rattle.std.proofs.Common.{refl, get_or-set_same, get_or-set_other, inl, inr, lt-ltb}
use Rattle.std.proofs.lemmas.Bool.{cases_eq}
use Rattle.std.proofs.lemmas.List.{length-set}
use Rattle.std.specs.List.{AllByRecursion}
use Rattle.mill_model.specs.Instance.{IsOrder}
use Rattle.list_laws.specs.Sets.{chosen, holds}
use Rattle.mill_model.specs.Pairs.{complement}
use Rattle.mill_model.specs.Slab.{load}
use Rattle.mill_model.specs.Plan.{slab}
use Rattle.mill_model.specs.declared.order.Order.{Order}
use Rattle.list_laws.proofs.Tests.{either}
use Rattle.large_moves.specs.Laid.{AreLoads}

-- one more order of the marked ones, or of the others
pub marked-more : (i : ℕ) (marks : List Bool) (orders : List Order) (d : Order) → i < length marks →
    i < length orders →
    load (chosen (take (suc i) marks) (take (suc i) orders))
    ≡ load (chosen (take i marks) (take i orders))
    + cond (get_or marks i false) (get_or orders i d).weight 0
marked-more i [] orders d h k = absurd (omega arith)
marked-more i (m ∷ marks) [] d h k = absurd (omega arith)
marked-more zero (true ∷ marks) (o ∷ orders) d h k = omega arith
marked-more zero (false ∷ marks) (o ∷ orders) d h k = omega arith
marked-more (suc i) (true ∷ marks) (o ∷ orders) d h k =
    let rest = marked-more i marks orders d (omega arith) (omega arith) in omega (arith, rest)
marked-more (suc i) (false ∷ marks) (o ∷ orders) d h k =
    marked-more i marks orders d (omega arith) (omega arith)

pub unmarked-more : (i : ℕ) (marks : List Bool) (orders : List Order) (d : Order) →
    i < length marks → i < length orders →
    load (chosen (complement (take (suc i) marks)) (take (suc i) orders))
    ≡ load (chosen (complement (take i marks)) (take i orders))
    + cond (get_or marks i false) 0 (get_or orders i d).weight
unmarked-more i [] orders d h k = absurd (omega arith)
unmarked-more i (m ∷ marks) [] d h k = absurd (omega arith)
unmarked-more zero (true ∷ marks) (o ∷ orders) d h k = omega arith
unmarked-more zero (false ∷ marks) (o ∷ orders) d h k = omega arith
unmarked-more (suc i) (true ∷ marks) (o ∷ orders) d h k =
    unmarked-more i marks orders d (omega arith) (omega arith)
unmarked-more (suc i) (false ∷ marks) (o ∷ orders) d h k =
    let rest = unmarked-more i marks orders d (omega arith) (omega arith) in omega (arith, rest)

-- the loads after two slabs were laid anew
pub loads-moved : (orders : List Order) (plan new loads : List ℕ) (a c x y : ℕ) →
    AreLoads orders plan loads → a < length orders → c < length orders →
    ((s : ℕ) → s ≢ a → s ≢ c → slab s new orders ≡ slab s plan orders) →
    x ≡ load (slab a new orders) → y ≡ load (slab c new orders) →
    AreLoads orders new (set (set loads a x) c y)
loads-moved orders plan new loads a c x y are a_in c_in stay x_is y_is = record {
  count = length-set (set loads a x) c y ∙ length-set loads a x ∙ are.count;
  at = λ s s_in. elim (cases_eq s c) [
    | inl e ↦ rw (e, get_or-set_same (set loads a x) c y 0 (two c_in)) y_is
    | inr n ↦ elim (cases_eq s a) [
      | inl e ↦ get_or-set_other (set loads a x) c s y 0 n
          ∙ rw (e, get_or-set_same loads a x 0 (one a_in)) x_is
      | inr m ↦ get_or-set_other (set loads a x) c s y 0 n ∙ get_or-set_other loads a s x 0 m
          ∙ are.at s s_in ∙ ap load (sym (stay s m n))
    ]
  ];
}
  where
    one : {s : ℕ} → s < length orders → s < length loads
    one h = omega (arith, h, are.count)

    two : {s : ℕ} → s < length orders → s < length (set loads a x)
    two h = let e : length (set loads a x) ≡ length loads = length-set loads a x in
        omega (arith, h, e, are.count)

-- a slab is used exactly where it has a load, since each order weighs something
pub used-load : (orders : List Order) → AllByRecursion IsOrder orders → (plan : List ℕ) →
    length plan ≡ length orders → (s : ℕ) →
    holds s plan ≡ ltb 0 (load (slab s plan orders))
used-load [] each [] e s = refl
used-load [] each (t ∷ plan) e s = absurd (omega arith)
used-load (o ∷ orders) each [] e s = absurd (omega arith)
used-load (o ∷ orders) each (t ∷ plan) e s = elim (either (eqb s t)) [
  | inl q ↦ (let heavy : 1 ≤ o.weight = each.0.0.0 in
      let some : ltb 0 (o.weight + load (slab s plan orders)) ≡ true =
      lt-ltb 0 (o.weight + load (slab s plan orders)) (omega (arith, heavy)) in
      rw (q, some) refl)
  | inr q ↦ rw q (used-load orders each.1 plan (omega arith) s)
]
