-- What first fit and best fit give the next order, by the slabs of the groups.
use Rattle.std.proofs.Common.{ℕ, suc, ◌+◌, ◌<◌, ◌≤◌, ◌≡◌, Bool, true, false, ◌&&◌, ◌↔◌, IsTrue}
use Rattle.std.proofs.Common.{List, [], ◌∷◌, ◌++◌, length, leb, filter, Some, sym, ap, ◌∙◌, arith}
use Rattle.std.proofs.Common.{inl, inr, le-leb, subst, ℤ, pos, ◌-ℤ◌, ◌≤ℤ◌, ◌<ℤ◌, int_le}
use Rattle.std.proofs.lemmas.Int.{ints}
use Rattle.std.specs.List.{slice_get, find}
use Rattle.std.specs.Option.{unwrap_or}
use Rattle.std.proofs.lemmas.List.Folds.{find-append}
use Rattle.list_laws.specs.Sets.{below}
use Rattle.mill_model.specs.Slab.{Mill, load, legal}
use Rattle.mill_model.specs.Starts.{stays_legal, first_group, added_charge, candidates, adds_least}
use Rattle.mill_model.specs.Starts.{best_group, best_fit}
use Rattle.mill_model.specs.Tree.{next_new}
use Rattle.mill_model.specs.declared.order.Order.{Order}
use Rattle.list_laws.proofs.Tests.{clash, either, last-or-below, same-answer}
use Rattle.mill_model.proofs.Slabs.{load-append}
use Rattle.mill_laws.proofs.Groups.{slab-new}
use Rattle.list_laws.proofs.Among.{Among, Among-unappend, Among-unfilter, below-lt, all-among}
use Rattle.list_laws.proofs.Among.{all-from, Among-append_left, Among-append_right, Among-filter}
use Rattle.list_laws.proofs.Among.{among-below}
use Rattle.order_symmetry.specs.Ranked.{RankedOrders, IsRanked, orders_of}
use Rattle.slab_rules.specs.OpenSlab.{OpenSlab, Carries}
use Rattle.split_tree.specs.Node.{Node, IsGroup, group_of}
use Rattle.split_tree.proofs.Pushes.{slab-same}
use Rattle.greedy_start.specs.Choice.{IsBestFrom}
use Rattle.greedy_start.specs.declared.open_path.Choice.{Choice}
use Rattle.greedy_start.proofs.Finds.{find-none, find-first, find-filter}

module _ (node : Node) (order : Order)
    (next : slice_get (orders_of node.ranked) (length node.path) ≡ Some order) where
  -- a slab takes the order where its group stays legal
  pub fits-stays : (g : ℕ) (slab : OpenSlab) (fits : Bool) → IsGroup node g slab →
      ((orders : List Order) → Carries slab orders →
      IsTrue fits ↔ (legal slab.mill (orders ++ order ∷ []) ≡ true)) →
      fits ≡ stays_legal node.ranked.mill (orders_of node.ranked) node.path g
  fits-stays g slab fits is law =
      same-answer fits _
      (rw (slab-same node.path (orders_of node.ranked) g order next)
      (rw is.mill at (law (group_of node g) is.carries)))

  -- a new group is legal where the order isn't too heavy
  pub new-stays : order.weight ≤ node.ranked.mill.largest → 1 ≤ node.ranked.mill.most_colours →
      stays_legal node.ranked.mill (orders_of node.ranked) node.path (next_new node.path) ≡ true
  new-stays light some =
      rw (
        slab-same node.path (orders_of node.ranked) (next_new node.path) order next,
        slab-new (next_new node.path) node.path (orders_of node.ranked) (omega arith),
      )
      (alone light some)
    where
      alone : order.weight ≤ node.ranked.mill.largest → 1 ≤ node.ranked.mill.most_colours →
          legal node.ranked.mill (order ∷ []) ≡ true
      alone light some =
          let load : leb (order.weight + 0) node.ranked.mill.largest ≡ true =
          le-leb _ _ (omega (arith, light)) in
          let few : leb 1 node.ranked.mill.most_colours ≡ true = le-leb _ _ some in
          rw (load, few)

  -- what the order adds on a group
  pub added-by_slab : (charge : ℕ → ℕ) (g : ℕ) (slab : OpenSlab) → Carries slab (group_of node g) →
      pos (charge (slab.load + order.weight)) -ℤ pos (charge slab.load)
      ≡ added_charge charge (orders_of node.ranked) node.path g
  added-by_slab charge g slab carries =
      rw (
        slab-same node.path (orders_of node.ranked) g order next,
        load-append (group_of node g) (order ∷ []),
      )
      (let more : load (group_of node g) + (order.weight + 0) ≡ slab.load + order.weight =
      omega (arith, carries.weight) in rw (more, carries.weight))

pub some-colour : (ranked : RankedOrders) → IsRanked ranked → 1 ≤ ranked.mill.most_colours
some-colour ranked known =
    let p : ranked.mill.most_colours ≡ known.problem.p =
    ap (λ mill. mill.most_colours) known.is.mill in
    let low : 1 ≤ known.problem.p = known.kept.within.p_low in
    omega arith

-- first fit
module _ (mill : Mill) (ranked : List Order) (path : List ℕ) where
  pub first_group-found : (g : ℕ) → g < next_new path → stays_legal mill ranked path g ≡ true →
      ((k : ℕ) → k < g → stays_legal mill ranked path k ≡ false) → g ≡ first_group mill ranked path
  first_group-found g l stays lower =
      rw (find-first (stays_legal mill ranked path) (next_new path) g l stays lower)

  pub first_group-new : (g : ℕ) → g ≡ next_new path →
      ((k : ℕ) → k < g → stays_legal mill ranked path k ≡ false) → g ≡ first_group mill ranked path
  first_group-new g e lower =
      rw (find-none (stays_legal mill ranked path) (next_new path)
      (λ k l. lower k (omega arith))) e

-- best fit
less-not : (a b : ℤ) → a <ℤ b → int_le b a ≡ false
less-not a b l = grind (arith, ints)

less-le : (a b : ℤ) → a <ℤ b → int_le a b ≡ true
less-le a b l = grind (arith, ints)

le-chain : (a b c : ℤ) → a ≤ℤ b → int_le b c ≡ true → int_le a c ≡ true
le-chain a b c l h = grind (arith, ints)

le-self : (a : ℤ) → int_le a a ≡ true
le-self a = grind (arith, ints)

module _ (mill : Mill) (charge : ℕ → ℕ) (ranked : List Order) (path : List ℕ) where
  abbrev added : ℕ → ℤ
  added g = added_charge charge ranked path g

  abbrev Best : ℕ → Choice → Type 0
  Best from choice = IsBestFrom mill charge ranked path from choice

  -- the new group alone
  pub best-new : (choice : Choice) → choice.group ≡ next_new path →
      stays_legal mill ranked path (next_new path) ≡ true → choice.added ≡ added (next_new path) →
      IsBestFrom mill charge ranked path (next_new path) choice
  best-new choice is stays adds = record {
    low = omega arith;
    high = omega arith;
    stays = rw is stays;
    adds = rw is adds;
    least = λ g low high there.
        let same : g ≡ next_new path = omega arith in
        rw (adds, same) (le-self (added (next_new path)));
    lowest = λ g low high there. absurd (omega arith);
  }

  -- a group below the choice that adds more, or can't take the order
  pub best-kept : (g : ℕ) (choice : Choice) →
      IsBestFrom mill charge ranked path (g + 1) choice →
      (stays_legal mill ranked path g ≡ true → choice.added <ℤ added g) →
      IsBestFrom mill charge ranked path g choice
  best-kept g choice best more = record {
    low = omega (arith, best.low);
    high = best.high;
    stays = best.stays;
    adds = best.adds;
    least = λ h low high there. elim (last-or-below g h (omega arith)) [
      | inl e ↦ rw (← e) (less-le choice.added (added g) (more (rw e there)))
      | inr l ↦ best.least h (omega arith) high there
    ];
    lowest = λ h low high there. elim (last-or-below g h (omega arith)) [
      | inl e ↦ rw (← e) (less-not choice.added (added g) (more (rw e there)))
      | inr l ↦ best.lowest h (omega arith) high there
    ];
  }

  -- a group below the choice that adds no more
  pub best-taken : (g : ℕ) (choice : Choice) (new : ℤ) →
      IsBestFrom mill charge ranked path (g + 1) choice →
      stays_legal mill ranked path g ≡ true → new ≡ added g → new ≤ℤ choice.added →
      IsBestFrom mill charge ranked path g (record { group = g; added = new })
  best-taken g choice new best stays adds less = record {
    low = omega arith;
    high = omega (arith, best.low, best.high);
    stays = stays;
    adds = adds;
    least = λ h low high there. elim (last-or-below g h (omega arith)) [
      | inl e ↦ rw (← e) (rw adds (le-self (added g)))
      | inr l ↦ le-chain new choice.added (added h) less (best.least h (omega arith) high there)
    ];
    lowest = λ h low high there. absurd (omega arith);
  }

  -- the choice among all
  module _ (choice : Choice) (best : IsBestFrom mill charge ranked path 0 choice)
      (new : stays_legal mill ranked path (next_new path) ≡ true) where
    abbrev groups : List ℕ
    groups = candidates mill ranked path

    among-candidates : (g : ℕ) → g ≤ next_new path → stays_legal mill ranked path g ≡ true →
        Among g groups
    among-candidates g high stays = elim (last-or-below g (next_new path) (omega arith)) [
      | inl e ↦ Among-append_right g (filter (stays_legal mill ranked path)
          (below (next_new path))) (next_new path ∷ []) (inl e)
      | inr l ↦ Among-append_left g (filter (stays_legal mill ranked path)
          (below (next_new path))) (next_new path ∷ [])
          (Among-filter (stays_legal mill ranked path) g (below (next_new path)) stays
          (among-below g (next_new path) l))
    ]

    candidate-high : (g : ℕ) → Among g groups → g ≤ next_new path
    candidate-high g h =
        elim (Among-unappend g (filter (stays_legal mill ranked path) (below (next_new path)))
        (next_new path ∷ []) h) [
          | inl i ↦ omega (
            arith,
            below-lt g (next_new path)
                (Among-unfilter (stays_legal mill ranked path) g (below (next_new path)) i).0,
          )
          | inr i ↦ elim i [ inl e ↦ omega (arith, e) | inr none ↦ absurd none ]
        ]

    candidate-stays : (g : ℕ) → Among g groups → stays_legal mill ranked path g ≡ true
    candidate-stays g h =
        elim (Among-unappend g (filter (stays_legal mill ranked path) (below (next_new path)))
        (next_new path ∷ []) h) [
          | inl i ↦ (Among-unfilter (stays_legal mill ranked path) g (below (next_new path)) i).1
          | inr i ↦ elim i [
            | inl e ↦ subst (λ s. stays_legal mill ranked path s ≡ true) (sym e) new
            | inr none ↦ absurd none
          ]
        ]

    choice-least : adds_least charge ranked path groups choice.group ≡ true
    choice-least =
        all-from (λ h. int_le (added choice.group) (added h)) groups
        (λ h i. subst (λ a. int_le a (added h) ≡ true) best.adds
        (best.least h (omega arith) (candidate-high h i) (candidate-stays h i)))

    lower-not : (g : ℕ) → g < choice.group →
        (stays_legal mill ranked path g && adds_least charge ranked path groups g) ≡ false
    lower-not g l = elim (either (stays_legal mill ranked path g)) [
      | inr f ↦ rw f
      | inl t ↦ elim (either (adds_least charge ranked path groups g)) [
        | inr f ↦ rw (t, f)
        | inl least ↦ absurd (clash (int_le (added g) choice.added)
            (subst (λ a. int_le (added g) a ≡ true) (sym best.adds)
            (all-among (λ h. int_le (added g) (added h)) choice.group groups least
            (among-candidates choice.group best.high best.stays)))
            (best.lowest g (omega arith) l t))
      ]
    ]

    first-answer : find (adds_least charge ranked path groups) groups ≡ Some choice.group
    first-answer =
        let stays : ℕ → Bool = stays_legal mill ranked path in
        let test : ℕ → Bool = adds_least charge ranked path groups in
        elim (last-or-below choice.group (next_new path) (omega (arith, best.high))) [
          | inl e ↦ find-append test (filter stays (below (next_new path))) (next_new path ∷ [])
              ∙ rw (
                find-filter test stays (below (next_new path)),
                find-none (λ g. stays g && test g) (next_new path)
                    (λ g l. lower-not g (omega (arith, e, l))),
                subst (λ g. test g ≡ true) e choice-least,
              ) (ap (λ g. Some g) (sym e))
          | inr l ↦ find-append test (filter stays (below (next_new path))) (next_new path ∷ [])
              ∙ rw (
                find-filter test stays (below (next_new path)),
                find-first (λ g. stays g && test g) (next_new path) choice.group l
                    (rw (best.stays, choice-least)) lower-not,
              )
        ]

    pub best_group-is : choice.group ≡ best_group mill charge ranked path
    best_group-is = sym (ap (λ o. unwrap_or o (next_new path)) first-answer)

-- best fit of one order more
pub best-step : (ranked given : RankedOrders) (charge : ℕ → ℕ) (path new : List ℕ) (k group : ℕ) →
    given ≡ ranked → path ≡ best_fit ranked.mill charge (orders_of ranked) k →
    group ≡ best_group given.mill charge (orders_of given) path → new ≡ path ++ group ∷ [] →
    new ≡ best_fit ranked.mill charge (orders_of ranked) (k + 1)
best-step ranked given charge path new k group same path_is group_is new_is =
    let more : k + 1 ≡ suc k = omega arith in
    new_is
    ∙ ap (λ g. path ++ g ∷ []) (group_is
    ∙ ap (λ (r : RankedOrders). best_group r.mill charge (orders_of r) path) same)
    ∙ ap (λ p. p ++ best_group ranked.mill charge (orders_of ranked) p ∷ []) path_is
    ∙ ap (best_fit ranked.mill charge (orders_of ranked)) (sym more)
