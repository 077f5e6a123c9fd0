-- Swept prices are valid and worth no less.
--
-- A sweep sets one price after another. Let all prices but that of order i stand still. As a
-- function of the price u of order i, the least slack of a group is the lesser of two numbers: the
-- least without order i, and the least with it, at the price 0, minus u. So the worth is the sum of
-- these over the groups, and u, and what stands still. The new price is the least of the slacks of
-- new slabs that hold order i, and, over the groups that order i may join alone, of the least with
-- it minus the least without it: its joining cost.
--   Valid: the new price is at most each slack of a new slab that holds order i.
--   Where the price rises, it is at most each joining cost, so no group's least slack falls.
--   Where it falls, no least slack falls either. The old prices were valid, so the new price isn't
--   a slack of a new slab; it is a joining cost, and the least slack of that group, which was at
--   most the least with order i minus the old price, is now the least without it: it has risen by
--   as much as the price fell.
use Rattle.std.proofs.Common.{ℕ, zero, suc, ◌<◌, ◌≤◌, ◌≡◌, Bool, true, false, not, List, [], ◌++◌}
use Rattle.std.proofs.Common.{map, length, get_or, set, ℤ, pos, ◌+ℤ◌, ◌-ℤ◌, ◌≤ℤ◌, ◌<ℤ◌, int_le}
use Rattle.std.proofs.Common.{refl, sym, ap, ◌∙◌, arith, inl, inr, length-set}
use Rattle.std.proofs.lemmas.Int.{ints}
use Rattle.std.specs.List.{list_any}
use Rattle.list_laws.specs.Sets.{int_sum, int_total, below}
use Rattle.mill_model.specs.Slab.{Mill, legal}
use Rattle.mill_model.specs.Plan.{slab}
use Rattle.mill_model.specs.Tree.{later_orders, next_new}
use Rattle.mill_model.specs.Prices.{slack, legal_sets, valid, least_slack, worth}
use Rattle.mill_model.specs.Bounds.{in_set, slacks, least_on_with, least_on_without, or_zero}
use Rattle.mill_model.specs.Bounds.{joinable, joining_cost, swept_price, sweep}
use Rattle.mill_model.specs.declared.order.Order.{Order}
use Rattle.list_laws.proofs.Tests.{either}
use Rattle.list_laws.proofs.Among.{Among, Among-append_left, Among-append_right, Among-unappend}
use Rattle.list_laws.proofs.Among.{Among-map, Among-unmap, Among-filter, Among-unfilter, all-among}
use Rattle.list_laws.proofs.Among.{all-from, any-among, any-from, among-below, below-lt}
use Rattle.mill_laws.proofs.Least.{or_zero-le, or_zero-in}
use Rattle.mill_laws.proofs.Slacks.{nothing-in, nothing-legal, among-slacks, from-slacks}
use Rattle.mill_laws.proofs.Slacks.{least_slack-glb, least_slack-below, slack-change, sum-change}
use Rattle.mill_laws.proofs.Slacks.{set-back}
use Rattle.list_laws.proofs.Lists.{nothing}
use Rattle.list_laws.proofs.Sums.{int_total-gain, int_total-mono}

-- Sums over the groups.

-- A price is set anew.

module _ (mill : Mill) (charge : ℕ → ℕ) (ranked : List Order) (path : List ℕ)
    (fits : (s : ℕ) → legal mill (slab s path ranked) ≡ true) (i : ℕ) (ys : List ℤ)
    (long : i < length ys) where
  abbrev pub rest : List Order
  rest = later_orders ranked path

  abbrev pub group : ℕ → List Order
  group g = slab g path ranked

  -- the prices with u for order i
  abbrev pub at : ℤ → List ℤ
  at u = set ys i u

  abbrev pub base : List ℤ
  base = at (pos 0)

  abbrev pub old : ℤ
  old = get_or ys i (pos 0)

  abbrev pub new : ℤ
  new = swept_price mill charge ranked path base i

  -- the least of a group without order i, with it at the price 0, and at the price u
  abbrev pub without : ℕ → ℤ
  without g = or_zero (least_on_without mill charge (group g) rest base i)

  abbrev pub «with» : ℕ → ℤ
  «with» g = or_zero (least_on_with mill charge (group g) rest base i)

  abbrev pub z : ℕ → ℤ → ℤ
  z g u = least_slack mill charge (group g) rest (at u)

  abbrev pub Legal : ℕ → List Bool → Type 0
  Legal g marks = Among marks (legal_sets mill (group g) rest)

  -- The slacks of a set, by whether it holds order i.

  pub slack-with : (some : List Order) (u : ℤ) (marks : List Bool) → in_set i marks ≡ true →
      slack charge some rest (at u) marks ≡ slack charge some rest base marks -ℤ u
  slack-with some u marks t = rw t at (slack-change charge some rest i ys long u marks)

  pub slack-without : (some : List Order) (u : ℤ) (marks : List Bool) → in_set i marks ≡ false →
      slack charge some rest (at u) marks ≡ slack charge some rest base marks
  slack-without some u marks f =
      omega (arith, ints, rw f at (slack-change charge some rest i ys long u marks))

  -- The least slack of a group at the price u is the lesser of `without` and `with` less u.

  pub without-le : (g : ℕ) (marks : List Bool) → Legal g marks → in_set i marks ≡ false →
      without g ≤ℤ slack charge (group g) rest base marks
  without-le g marks h f =
      or_zero-le (slack charge (group g) rest base marks)
      (slacks mill charge (group g) rest base (λ set. not (in_set i set)))
      (among-slacks mill charge (group g) rest base (λ set. not (in_set i set)) marks h (rw f refl))

  pub with-le : (g : ℕ) (marks : List Bool) → Legal g marks → in_set i marks ≡ true →
      «with» g ≤ℤ slack charge (group g) rest base marks
  with-le g marks h t =
      or_zero-le (slack charge (group g) rest base marks)
      (slacks mill charge (group g) rest base (in_set i))
      (among-slacks mill charge (group g) rest base (in_set i) marks h t)

  pub z-without : (g : ℕ) (u : ℤ) → z g u ≤ℤ without g
  z-without g u =
      let lacks : List Bool → Bool = λ set. not (in_set i set) in
      let none = nothing (length rest) in
      let least-is = or_zero-in (slack charge (group g) rest base none)
      (slacks mill charge (group g) rest base lacks)
      (among-slacks mill charge (group g) rest base lacks none
      (nothing-legal mill charge (group g) rest (fits g)) (rw (nothing-in i (length rest)) refl)) in
      let r = from-slacks mill charge (group g) rest base lacks (without g) least-is in
      omega (
        arith,
        ints,
        r.3,
        slack-without (group g) u r.0 (grind (arith, r.2)),
        least_slack-below mill charge (group g) rest (fits g) (at u) r.0 r.1,
      )

  pub z-with : (g : ℕ) (u : ℤ) (marks : List Bool) → Legal g marks → in_set i marks ≡ true →
      z g u ≤ℤ («with» g -ℤ u)
  z-with g u marks l t =
      let least-is = or_zero-in (slack charge (group g) rest base marks)
      (slacks mill charge (group g) rest base (in_set i))
      (among-slacks mill charge (group g) rest base (in_set i) marks l t) in
      let r = from-slacks mill charge (group g) rest base (in_set i) («with» g) least-is in
      omega (
        arith,
        ints,
        r.3,
        slack-with (group g) u r.0 r.2,
        least_slack-below mill charge (group g) rest (fits g) (at u) r.0 r.1,
      )

  pub z-least : (g : ℕ) (u v : ℤ) → v ≤ℤ without g →
      ((marks : List Bool) → Legal g marks → in_set i marks ≡ true → v ≤ℤ («with» g -ℤ u)) →
      v ≤ℤ z g u
  z-least g u v h k =
      least_slack-glb mill charge (group g) rest (fits g) (at u) v (λ marks l.
      elim (either (in_set i marks)) [
        | inl t ↦ omega (
          arith,
          ints,
          slack-with (group g) u marks t,
          with-le g marks l t,
          k marks l t,
        )
        | inr f ↦ omega (arith, ints, slack-without (group g) u marks f, without-le g marks l f)
      ])

  -- The new price is the least of the slacks of new slabs with order i and of the joining costs.

  abbrev pub firsts : List ℤ
  firsts = slacks mill charge [] rest base (in_set i)

  abbrev pub seconds : List ℤ
  seconds = map (joining_cost mill charge ranked path base i) (joinable mill ranked path i)

  pub new-first : (marks : List Bool) → Among marks (legal_sets mill [] rest) →
      in_set i marks ≡ true → new ≤ℤ slack charge [] rest base marks
  new-first marks l t =
      or_zero-le (slack charge [] rest base marks) (firsts ++ seconds)
      (Among-append_left (slack charge [] rest base marks) firsts seconds
      (among-slacks mill charge [] rest base (in_set i) marks l t))

  pub new-second : (g : ℕ) (marks : List Bool) → g < next_new path → Legal g marks →
      in_set i marks ≡ true → new ≤ℤ («with» g -ℤ without g)
  new-second g marks b l t =
      let may-join : ℕ → Bool = λ g. list_any (in_set i) (legal_sets mill (group g) rest) in
      or_zero-le («with» g -ℤ without g) (firsts ++ seconds)
      (Among-append_right («with» g -ℤ without g) firsts seconds
      (Among-map (joining_cost mill charge ranked path base i) g (joinable mill ranked path i)
      (Among-filter may-join g (below (next_new path))
      (any-among (in_set i) marks (legal_sets mill (group g) rest) t l)
      (among-below g (next_new path) b))))

  -- The new prices are valid.

  not-negative : (prices : List ℤ) → valid mill charge rest prices ≡ true → (marks : List Bool) →
      Among marks (legal_sets mill [] rest) → pos 0 ≤ℤ slack charge [] rest prices marks
  not-negative prices v marks l =
      from-test (slack charge [] rest prices marks)
      (all-among (λ set. int_le (pos 0) (slack charge [] rest prices set)) marks
      (legal_sets mill [] rest) v l)
    where
      from-test : (x : ℤ) → int_le (pos 0) x ≡ true → pos 0 ≤ℤ x
      from-test x h = grind (arith, ints)

  pub old-slack : (marks : List Bool) →
      slack charge [] rest (at old) marks ≡ slack charge [] rest ys marks
  old-slack marks = ap (λ prices. slack charge [] rest prices marks) (set-back i ys long)

  pub new-valid : valid mill charge rest ys ≡ true → valid mill charge rest (at new) ≡ true
  new-valid v =
      all-from (λ set. int_le (pos 0) (slack charge [] rest (at new) set)) (legal_sets mill [] rest)
      (λ marks l. to-test (slack charge [] rest (at new) marks) (elim (either (in_set i marks)) [
        | inl t ↦ omega (arith, ints, slack-with [] new marks t, new-first marks l t)
        | inr f ↦ omega (
          arith,
          ints,
          slack-without [] new marks f,
          slack-without [] old marks f,
          old-slack marks,
          not-negative ys v marks l,
        )
      ]))
    where
      to-test : (x : ℤ) → pos 0 ≤ℤ x → int_le (pos 0) x ≡ true
      to-test x h = grind (arith, ints)

  -- They are worth no less.

  pub worth-at : (u : ℤ) →
      worth mill charge ranked path (at u)
      ≡ (int_total (next_new path) (λ g. z g u) +ℤ int_sum base) +ℤ u
  worth-at u = omega (arith, ints, sum-change i ys u long)

  -- where the price rises
  pub raised : old ≤ℤ new →
      int_total (next_new path) (λ g. z g old) ≤ℤ int_total (next_new path) (λ g. z g new)
  raised h =
      int_total-mono (next_new path) (λ g. z g old) (λ g. z g new) (λ g l.
      z-least g new (z g old) (z-without g old) (λ marks m t.
      omega (arith, ints, z-without g old, new-second g marks l m t)))

  -- where it falls: of each group, and of one whose joining cost is the new price
  pub lowered : new <ℤ old → (g : ℕ) → z g old ≤ℤ z g new
  lowered h g =
      z-least g new (z g old) (z-without g old) (λ marks m t.
      omega (arith, ints, z-with g old marks m t))

  pub gained : (g : ℕ) → new ≡ «with» g -ℤ without g → (marks : List Bool) → Legal g marks →
      in_set i marks ≡ true → new <ℤ old → (z g old +ℤ (old -ℤ new)) ≤ℤ z g new
  gained g e marks m t h =
      let before = z-with g old marks m t in
      z-least g new (z g old +ℤ (old -ℤ new)) (omega (arith, ints, e, before))
      (λ marks' m' t'. omega (arith, ints, before))

  -- some legal set of new orders holds order i, so that there is a new price
  pub new-worth : valid mill charge rest ys ≡ true → (alone : List Bool) →
      Among alone (legal_sets mill [] rest) → in_set i alone ≡ true →
      worth mill charge ranked path ys ≤ℤ worth mill charge ranked path (at new)
  new-worth v alone m t =
      let same : worth mill charge ranked path ys ≡ worth mill charge ranked path (at old) =
      ap (worth mill charge ranked path) (sym (set-back i ys long)) in
      elim (either (int_le old new)) [
        | inl r ↦ omega (arith, ints, worth-at old, worth-at new, raised (rises r))
        | inr f ↦ omega (arith, ints, worth-at old, worth-at new, gain (falls f))
      ]
    where
      rises : int_le old new ≡ true → old ≤ℤ new
      rises h = more old new h
        where
          more : (x y : ℤ) → int_le x y ≡ true → x ≤ℤ y
          more x y h = grind (arith, ints)

      falls : int_le old new ≡ false → new <ℤ old
      falls h = less old new h
        where
          less : (x y : ℤ) → int_le x y ≡ false → y <ℤ x
          less x y h = grind (arith, ints)

      not-first : new <ℤ old → Among new firsts → ⊥
      not-first h x =
          let r = from-slacks mill charge [] rest base (in_set i) new x in
          omega (
            arith,
            ints,
            r.3,
            slack-with [] old r.0 r.2,
            old-slack r.0,
            not-negative ys v r.0 r.1,
          )

      gain : new <ℤ old →
          (int_total (next_new path) (λ g. z g old) +ℤ (old -ℤ new))
          ≤ℤ int_total (next_new path) (λ g. z g new)
      gain h =
          elim (Among-unappend new firsts seconds (or_zero-in (slack charge [] rest base alone)
          (firsts ++ seconds) (Among-append_left (slack charge [] rest base alone) firsts seconds
          (among-slacks mill charge [] rest base (in_set i) alone m t)))) [
            | inl x ↦ absurd (not-first h x)
            | inr x ↦ (let r = Among-unmap (joining_cost mill charge ranked path base i) new
                (joinable mill ranked path i) x in
                let may-join : ℕ → Bool =
                λ g. list_any (in_set i) (legal_sets mill (group g) rest) in
                let q = Among-unfilter may-join r.0 (below (next_new path)) r.1 in
                let w = any-from (in_set i) (legal_sets mill (group r.0) rest) q.1 in
                int_total-gain (next_new path) r.0 (old -ℤ new) (λ g. z g old) (λ g. z g new)
                (below-lt r.0 (next_new path) q.0) (λ g l. lowered h g)
                (gained r.0 r.2 w.0 w.1 w.2 h))
          ]

-- A whole sweep.

pub sweep-length : (mill : Mill) (charge : ℕ → ℕ) (ranked : List Order) (path : List ℕ)
    (ys : List ℤ) (i : ℕ) → length (sweep mill charge ranked path ys i) ≡ length ys
sweep-length mill charge ranked path ys zero = refl
sweep-length mill charge ranked path ys (suc i) =
    length-set _ i _ ∙ sweep-length mill charge ranked path ys i

module _ (mill : Mill) (charge : ℕ → ℕ) (ranked : List Order) (path : List ℕ) (ys : List ℤ)
    (fits : (s : ℕ) → legal mill (slab s path ranked) ≡ true)
    (v : valid mill charge (later_orders ranked path) ys ≡ true) where
  pub sweep-valid : (i : ℕ) → i ≤ length ys →
      valid mill charge (later_orders ranked path) (sweep mill charge ranked path ys i) ≡ true
  sweep-valid zero l = v
  sweep-valid (suc i) l =
      new-valid mill charge ranked path fits i (sweep mill charge ranked path ys i)
      (rw (sweep-length mill charge ranked path ys i) l) (sweep-valid i (omega arith))

  -- where each order fits a slab alone
  pub sweep-worth : ((i : ℕ) → i < length ys → (alone : List Bool)
      × Among alone (legal_sets mill [] (later_orders ranked path)) × (in_set i alone ≡ true)) →
      (i : ℕ) → i ≤ length ys →
      worth mill charge ranked path ys
      ≤ℤ worth mill charge ranked path (sweep mill charge ranked path ys i)
  sweep-worth each zero l = omega (arith, ints)
  sweep-worth each (suc i) l =
      let one = each i l in
      let before = sweep-worth each i (omega arith) in
      let step : worth mill charge ranked path (sweep mill charge ranked path ys i)
      ≤ℤ worth mill charge ranked path (sweep mill charge ranked path ys (suc i)) =
      new-worth mill charge ranked path fits i (sweep mill charge ranked path ys i)
      (rw (sweep-length mill charge ranked path ys i) l) (sweep-valid i (omega arith)) one.0 one.1
      one.2 in
      omega (arith, ints, before, step)
