-- What the cheapest load of the whole table says of all splits.
use Rattle.std.proofs.Common.{ℕ, zero, suc, ◌+◌, ◌-◌, ◌<◌, ◌≤◌, ◌≡◌, Bool, true, false, List, []}
use Rattle.std.proofs.Common.{◌∷◌, length, drop, leb, refl, sym, ap, ◌∙◌, arith, subst, le-leb}
use Rattle.std.proofs.Common.{leb-true, Option, Some, None, ◌⊎◌, ◌||◌, not, inl, inr}
use Rattle.std.specs.List.{list_all}
use Rattle.list_laws.specs.Sets.{chosen, sets}
use Rattle.mill_model.specs.Slab.{Mill, load, colours, legal}
use Rattle.mill_model.specs.Pairs.{complement, legal_split, split_loss, not_bettered}
use Rattle.mill_model.specs.declared.order.Order.{Order}
use Rattle.list_laws.proofs.Tests.{either, and-left, and-right}
use Rattle.list_laws.proofs.Among.{all-from}
use Rattle.list_laws.proofs.Among.{sets-length}
use Rattle.pair_split.specs.Words.{bit}
use Rattle.pair_split.specs.Splits.{grouped, IsCheapestSplit}
use Rattle.pair_split.specs.States.{state_of, IsPart, IsWithin}
use Rattle.pair_split.specs.Tables.{IsTable, Marked}
use Rattle.pair_split.specs.Loads.{IsCheapest, IsLoads, loss_of_load}
use Rattle.pair_split.specs.declared.state.State.{State}
use Rattle.pair_split.proofs.GatheredLoads.{some-cost}

-- both slabs weigh what all orders weigh
loads-add : (orders : List Order) (marks : List Bool) → length marks ≡ length orders →
    load (chosen marks orders) + load (chosen (complement marks) orders) ≡ load orders
loads-add [] [] e = omega arith
loads-add [] (m ∷ marks) e = absurd (omega arith)
loads-add (o ∷ orders) [] e = absurd (omega arith)
loads-add (o ∷ orders) (true ∷ marks) e =
    let rest : load (chosen marks orders) + load (chosen (complement marks) orders) ≡ load orders =
    loads-add orders marks (omega arith) in
    omega arith
loads-add (o ∷ orders) (false ∷ marks) e =
    let rest : load (chosen marks orders) + load (chosen (complement marks) orders) ≡ load orders =
    loads-add orders marks (omega arith) in
    omega arith

pub grouped-drop : (orders : List Order) → grouped orders ≡ true → (i : ℕ) →
    grouped (drop i orders) ≡ true
grouped-drop orders g zero = g
grouped-drop [] g (suc i) = refl
grouped-drop (o ∷ orders) g (suc i) = grouped-drop orders (and-right _ (grouped orders) g) i

pub legal-bounds : (mill : Mill) (orders : List Order) → legal mill orders ≡ true →
    (load orders ≤ mill.largest) × (colours orders ≤ mill.most_colours)
legal-bounds mill orders h = (
  leb-true _ _ (and-left (leb (load orders) mill.largest) _ h),
  leb-true _ _ (and-right (leb (load orders) mill.largest) _ h),
)

bounds-legal : (mill : Mill) (orders : List Order) → load orders ≤ mill.largest →
    colours orders ≤ mill.most_colours → legal mill orders ≡ true
bounds-legal mill orders light few = rw (le-leb _ _ light, le-leb _ _ few) refl

-- what each list of marks of the right length passes, each set passes
pub all-sets : (n : ℕ) (test : List Bool → Bool) →
    ((marks : List Bool) → length marks ≡ n → test marks ≡ true) → list_all test (sets n) ≡ true
all-sets n test h = all-from test (sets n) (λ marks among. h marks (sets-length n marks among))

-- what no legal split betters, and the other way round
pub splits-from : (mill : Mill) (charge : ℕ → ℕ) (bound : ℕ) (orders : List Order) →
    ((marks : List Bool) → length marks ≡ length orders →
    legal mill (chosen marks orders) ≡ true →
    legal mill (chosen (complement marks) orders) ≡ true →
    bound ≤ split_loss charge orders marks) →
    not_bettered mill charge bound orders ≡ true
splits-from mill charge bound orders h = all-sets (length orders) _ (λ marks whole.
    one marks whole (either (legal mill (chosen marks orders)))
    (either (legal mill (chosen (complement marks) orders))))
  where
    one : (marks : List Bool) → length marks ≡ length orders →
        (legal mill (chosen marks orders) ≡ true) ⊎ (legal mill (chosen marks orders) ≡ false) →
        (legal mill (chosen (complement marks) orders) ≡ true)
        ⊎ (legal mill (chosen (complement marks) orders) ≡ false) →
        (not (legal_split mill orders marks) || leb bound (split_loss charge orders marks)) ≡ true
    one marks whole (inr e) second = rw e refl
    one marks whole (inl d) (inr e) = rw (d, e) refl
    one marks whole (inl d) (inl e) =
        let l : leb bound (split_loss charge orders marks) ≡ true =
        le-leb _ _ (h marks whole d e) in
        rw (d, e, l) refl

module _ (mill : Mill) (charge : ℕ → ℕ) (orders : List Order) (words : ℕ) (table loads : List ℕ)
    (is_table : IsTable mill words orders table) (is_loads : IsLoads mill words table loads) where
  part-loss : (marks : List Bool) → IsPart mill orders marks →
      loss_of_load charge (load orders) (load (chosen marks orders))
      ≡ split_loss charge orders marks
  part-loss marks part =
      let sum = loads-add orders marks part.whole in
      let rest : load orders - load (chosen marks orders)
      ≡ load (chosen (complement marks) orders) =
      omega (arith, sum) in
      ap (λ y. charge (load (chosen marks orders)) + charge y) rest

  legal-part : (marks : List Bool) → length marks ≡ length orders →
      legal mill (chosen marks orders) ≡ true →
      legal mill (chosen (complement marks) orders) ≡ true → IsPart mill orders marks
  legal-part marks whole first second =
      let one = legal-bounds mill (chosen marks orders) first in
      let other = legal-bounds mill (chosen (complement marks) orders) second in
      record {
        whole = whole;
        within = record { light = one.0; few = one.1; few_others = other.1 };
      }

  -- where no load of light slabs loses less, no legal split does
  none-better : (bound : ℕ) → ((l : ℕ) → l ≤ mill.largest → bit loads l ≡ 1 →
      load orders ≤ l + mill.largest → bound ≤ loss_of_load charge (load orders) l) →
      not_bettered mill charge bound orders ≡ true
  none-better bound dear = splits-from mill charge bound orders (λ marks whole first second.
      (let part = legal-part marks whole first second in
      let light = legal-bounds mill (chosen (complement marks) orders) second in
      let sum = loads-add orders marks whole in
      let here : bound ≤ loss_of_load charge (load orders) (load (chosen marks orders)) =
      dear (load (chosen marks orders)) part.within.light
      (is_loads.every (state_of orders marks) part.within (is_table.every marks part))
      (omega (arith, sum, light.0)) in
      let loss = part-loss marks part in
      omega (arith, here, loss)))

  pub none-cheap : (bound : ℕ) (best : Option (ℕ × ℕ)) →
      IsCheapest charge (load orders) mill.largest (mill.largest + 1) loads best →
      ((b : ℕ × ℕ) → best ≡ Some b → bound ≤ b.1) → not_bettered mill charge bound orders ≡ true
  none-cheap bound None c big = none-better bound (λ l below set light.
      (let heavy : l + mill.largest < load orders = c.none refl l (omega arith) set in
      absurd (omega (arith, heavy, light))))
  none-cheap bound (Some b) c big = none-better bound (λ l below set light.
      (let least : b.1 ≤ loss_of_load charge (load orders) l =
      c.least b refl l (omega arith) set light in
      let bounded : bound ≤ b.1 = big b refl in
      omega (arith, least, bounded)))

  -- some marked state has the cheapest load
  pub cheapest-state : (b : ℕ × ℕ) →
      IsCheapest charge (load orders) mill.largest (mill.largest + 1) loads (Some b) →
      (s : State) × IsWithin mill s × Marked words table s × (s.load ≡ b.0)
  cheapest-state b c =
      let m = c.marked b refl in is_loads.found b.0 (omega (arith, m.1)) m.0

  -- a split with the cheapest load is a cheapest one
  pub cheapest-split : (b : ℕ × ℕ) →
      IsCheapest charge (load orders) mill.largest (mill.largest + 1) loads (Some b) →
      (marks : List Bool) → IsPart mill orders marks → load (chosen marks orders) ≡ b.0 →
      IsCheapestSplit mill charge orders marks b.1
  cheapest-split b c marks part e =
      let m = c.marked b refl in
      let sum = loads-add orders marks part.whole in
      let second_light : load (chosen (complement marks) orders) ≤ mill.largest =
      omega (arith, m.2, e, sum) in
      record {
        whole = part.whole;
        is_legal = rw (
          bounds-legal mill (chosen marks orders) part.within.light part.within.few,
          bounds-legal mill (chosen (complement marks) orders) second_light part.within.few_others,
        ) refl;
        loses = sym (part-loss marks part) ∙ ap (loss_of_load charge (load orders)) e ∙ sym m.3;
        least = none-cheap b.1 (Some b) c (λ d q.
            (let same : b.1 ≡ d.1 = some-cost b d q in omega (arith, same)));
      }

-- the same, of an answer by another name
pub cheapest-is : (charge : ℕ → ℕ) (whole largest n : ℕ) (loads : List ℕ)
    (best at : Option (ℕ × ℕ)) → best ≡ at →
    IsCheapest charge whole largest n loads best → IsCheapest charge whole largest n loads at
cheapest-is charge whole largest n loads best at e h =
    subst (λ o. IsCheapest charge whole largest n loads o) e h

pub none-some : {A : Type 0} (b : ℕ × ℕ) → ◌≡◌ {A = Option (ℕ × ℕ)} None (Some b) → A
none-some b e = absurd (cc)
