-- Each record of a closing is sound, and its split is thrifty: the recorded prices are valid,
-- a path that the store finds has the live key of the held one and at most its dead loss, and a
-- path is split only where neither prices are worth more than 60 * (known - 1).
use Rattle.std.proofs.Common.{◌≡◌, ◌<◌, ◌≤◌, inl, inr, ℕ, zero, suc, Bool, true, false, cond, ◌&&◌}
use Rattle.std.proofs.Common.{◌||◌, map}
use Rattle.std.proofs.Common.{leb, eqb, List, [], ◌∷◌, length, get_or, Option, Some, None}
use Rattle.std.proofs.Common.{refl}
use Rattle.std.proofs.Common.{sym, ap, ◌∙◌, subst, arith, eq-eqb, eqb-true, ℤ, pos}
use Rattle.std.specs.Prelude.{◌-ℤ◌, ◌*ℤ◌, int_lt, int_le}
use Rattle.std.specs.List.{AllByRecursion, list_any}
use Rattle.std.proofs.lemmas.Int.{ints}
use Rattle.list_laws.specs.Sets.{same_list}
use Rattle.list_laws.proofs.Tests.{either, and-left, and-right, clash}
use Rattle.list_laws.proofs.Sums.{each_below-from}
use Rattle.list_laws.proofs.Among.{each-at, any-among, any-from}
use Rattle.list_laws.proofs.Times.{same_list-eq}
use Rattle.mill_model.specs.Charges.{ChargeTable, charge_of}
use Rattle.mill_model.specs.LiveKey.{same_live_key}
use Rattle.mill_model.specs.Log.{Task, sound}
use Rattle.mill_model.specs.Plan.{slab, legal_plan, loss}
use Rattle.mill_model.specs.Rank.{ranked_orders, starts_class_in}
use Rattle.mill_model.specs.Slab.{legal}
use Rattle.mill_model.specs.Thrift.{is_open}
use Rattle.mill_model.specs.declared.closing.Closing.TheVariants.{Priced, Dominated}
use Rattle.mill_laws.specs.PriceLaws.{AreValidAt}
use Rattle.mill_laws.proofs.Paths.{tree-fits}
use Rattle.mill_laws.proofs.PriceLaws.{ascent-prices-are-valid, swept-prices-are-valid}
use Rattle.mill_laws.proofs.PriceLaws.{ascent-worth-is-theirs}
use Rattle.order_symmetry.specs.Ranked.{RankedOrders, IsRanked, orders_of}
use Rattle.split_tree.specs.Keys.{Key, IsLiveKey, same_key}
use Rattle.split_tree.proofs.SameKeys.{keys-tell}
use Rattle.nogood_store.specs.Entries.{Stored, found, lesser, path_of}
use Rattle.nogood_store.specs.declared.store.Entry.{Entry as Noted}
use Rattle.search_step.specs.Moves.{first_prices, second_prices, exceeds, found_at, starts}
use Rattle.search_step.specs.Moves.{dead_loss_at, loss_at}
use Rattle.search_step.specs.Serving.{IsPathOf}
use Rattle.search_step.specs.Steps.{IsNotedOf, IsPlanAt, task_at}
use Rattle.search_step.specs.Honest.{IsKept, stands_for}
use Rattle.search_step.proofs.Lengths.{IsFound, found-facts}

pub and-both : (a b : Bool) → a ≡ true → b ≡ true → (a && b) ≡ true
and-both a b p q = rw (p, q) refl

pub all-at : {X : Type 0} (P : X → Type 0) (i : ℕ) (d : X) (xs : List X) → AllByRecursion P xs →
    i < length xs → P (get_or xs i d)
all-at P i d [] a l = absurd (omega arith)
all-at P zero d (x ∷ xs) a l = a.0
all-at P (suc i) d (x ∷ xs) a l = all-at P i d xs a.1 (omega arith)

-- what isn't worth more than a loss less 1 isn't worth more than a greater loss less 1
no-more : (known start : ℕ) (x : ℤ) → known ≤ start →
    int_lt (pos 60 *ℤ (pos known -ℤ pos 1)) x ≡ false →
    int_le x (pos 60 *ℤ (pos start -ℤ pos 1)) ≡ true
no-more known start x l h = grind (arith, ints)

-- where nothing is found, no entry has the key and at most the dead loss
none-passes : (entries : List Noted) (key : Key) (dead : ℕ) →
    path_of (found entries key dead) ≡ None →
    list_any (λ note. same_key key note.key && leb note.dead dead) entries ≡ false
none-passes [] key dead e = refl
none-passes (x ∷ entries) key dead e =
    go (same_key key x.key && leb x.dead dead) (found entries key dead)
    (none-passes entries key dead) e
  where
    no-entry : (r : Option Noted) → path_of (lesser x r) ≡ None → ⊥
    no-entry None k = absurd (cc)
    no-entry (Some f) k = absurd (cc)

    go : (b : Bool) (r : Option Noted) →
        (path_of r ≡ None →
        list_any (λ note. same_key key note.key && leb note.dead dead) entries ≡ false) →
        path_of (cond b (lesser x r) r) ≡ None →
        (b || list_any (λ note. same_key key note.key && leb note.dead dead) entries) ≡ false
    go true r ih k = absurd (no-entry r k)
    go false r ih k = ih k

module _ (ranked : RankedOrders) (charges : ChargeTable) (path : List ℕ)
    (tree : IsPathOf ranked path) where
  abbrev task : Task
  task = task_at ranked charges

  first-valid : AreValidAt ranked.mill (charge_of charges) (orders_of ranked) path
      (first_prices task path)
  first-valid =
      ascent-prices-are-valid ranked.mill (charge_of charges) (orders_of ranked) path tree.is

  second-valid : AreValidAt ranked.mill (charge_of charges) (orders_of ranked) path
      (second_prices task path)
  second-valid =
      swept-prices-are-valid ranked.mill (charge_of charges) (orders_of ranked) path
      (first_prices task path) tree.is first-valid

  pub priced-sound : (known : ℕ) (prices : List ℤ) →
      AreValidAt ranked.mill (charge_of charges) (orders_of ranked) path prices →
      exceeds task known path prices ≡ true → sound task known path (Priced prices) ≡ true
  priced-sound known prices v e =
      and-both _ _ (and-both _ _ (eq-eqb _ _ v.one_each) v.are_valid) e

  pub first-sound : (known : ℕ) → exceeds task known path (first_prices task path) ≡ true →
      sound task known path (Priced (first_prices task path)) ≡ true
  first-sound known e = priced-sound known (first_prices task path) first-valid e

  pub second-sound : (known : ℕ) → exceeds task known path (second_prices task path) ≡ true →
      sound task known path (Priced (second_prices task path)) ≡ true
  second-sound known e = priced-sound known (second_prices task path) second-valid e

  -- what prices don't close is thrifty to split
  pub open-thrifty : (known start : ℕ) → known ≤ start →
      exceeds task known path (first_prices task path) ≡ false →
      exceeds task known path (second_prices task path) ≡ false →
      is_open task start path ≡ true
  open-thrifty known start l first second =
      and-both _ _
      (subst (λ (x : ℤ). int_le x (pos 60 *ℤ (pos start -ℤ pos 1)) ≡ true)
      (sym (ascent-worth-is-theirs ranked.mill (charge_of charges) (orders_of ranked) path tree.is))
      (no-more known start _ l first))
      (no-more known start _ l second)

  -- the plan of a leaf is legal and loses what the leaf does
  pub leaf-kept : (plan : List ℕ) → IsPlanAt ranked path plan →
      IsKept ranked charges (record { plan = plan; loss = loss_at task path })
  leaf-kept plan is = record {
    plan = λ orders placed. (let p = is orders placed in
        let same : orders_of ranked ≡ ranked_orders orders =
        ap (λ xs. map (λ x. x.order) xs) placed in
        record {
          legal = record {
            each = p.each;
            slabs =
                p.legal ranked.mill
                ∙ subst (λ os. legal_plan ranked.mill path os ≡ true) same path-legal;
          };
          loses =
              p.loses (charge_of charges) ∙ ap (λ os. loss (charge_of charges) path os) (sym same);
        });
  }
    where
      path-legal : legal_plan ranked.mill path (orders_of ranked) ≡ true
      path-legal =
          each_below-from (length (orders_of ranked))
          (λ s. legal ranked.mill (slab s path (orders_of ranked)))
          (λ s l. tree-fits ranked.mill (orders_of ranked) path tree.is s)

  module _ (known : IsRanked ranked) (key : Key)
      (keyed : starts task path ≡ true → IsLiveKey (record { ranked = ranked; path = path }) key)
      (store : Stored) where
    -- what is found for a path, with what each entry has
    pub found-other : (P : Noted → Type 0) (other : List ℕ) → AllByRecursion P store.entries →
        found_at task store key path ≡ Some other →
        (note : Noted) × IsFound P key (dead_loss_at task path) note × (note.path ≡ other)
        × (starts task path ≡ true)
    found-other P other all e = start (starts task path) refl e
      where
        none-some : None ≡ Some other → ⊥
        none-some k = cc

        pick : starts task path ≡ true → (r : Option Noted) →
            found store.entries key (dead_loss_at task path) ≡ r → path_of r ≡ Some other →
            (note : Noted) × IsFound P key (dead_loss_at task path) note × (note.path ≡ other)
            × (starts task path ≡ true)
        pick s None q k = absurd (none-some k)
        pick s (Some note) q k =
            (note, found-facts P store.entries key (dead_loss_at task path) note all q, same k, s)
          where
            same : Some note.path ≡ Some other → note.path ≡ other
            same k = cc

        start : (b : Bool) → starts task path ≡ b →
            cond b (path_of (found store.entries key (dead_loss_at task path))) None
            ≡ Some other →
            (note : Noted) × IsFound P key (dead_loss_at task path) note × (note.path ≡ other)
            × (starts task path ≡ true)
        start true s k = pick s (found store.entries key (dead_loss_at task path)) refl k
        start false s k = absurd (none-some k)

    -- and so a record that names it is sound
    pub other-sound : (loss : ℕ) (note : Noted) → IsNotedOf ranked charges note →
        same_key key note.key ≡ true → leb note.dead (dead_loss_at task path) ≡ true →
        starts task path ≡ true → sound task loss path (Dominated note.path) ≡ true
    other-sound loss note is same low s =
        let live : same_live_key ranked.mill (orders_of ranked) path note.path ≡ true =
        sym (keys-tell ranked known path note.path key note.key (keyed s) is.key) ∙ same in
        let dead : leb (dead_loss_at task note.path) (dead_loss_at task path) ≡ true =
        subst (λ n. leb n (dead_loss_at task path) ≡ true) is.dead low in
        let even : eqb (length path) (length note.path) ≡ true =
        and-left (eqb (length path) (length note.path)) _ live in
        let long : eqb (length note.path) (length path) ≡ true =
        eq-eqb _ _ (sym (eqb-true _ _ even)) in
        and-both _ _ (and-both _ _ (and-both _ _ (and-both _ _ is.tree.is long) s) live) dead

    -- where nothing is found, no noted path stands for it
    pub none-stands : (other : List ℕ) → AllByRecursion (IsNotedOf ranked charges) store.entries →
        found_at task store key path ≡ None →
        (starts task other ≡ true → list_any (λ note. same_list other note.path) store.entries
        ≡ true) → stands_for task other path ≡ false
    none-stands other all e there = elim (either (stands_for task other path)) [
      | inl t ↦ absurd (stood t)
      | inr f ↦ f
    ]
      where
        passes : Noted → Bool
        passes note = same_key key note.key && leb note.dead (dead_loss_at task path)

        stood : stands_for task other path ≡ true → ⊥
        stood t =
            let s : starts task path ≡ true = and-left (starts task path) _ t in
            let both = and-right (starts task path) _ t in
            let live : same_live_key ranked.mill (orders_of ranked) path other ≡ true =
            and-left (same_live_key ranked.mill (orders_of ranked) path other) _ both in
            let dead : leb (dead_loss_at task other) (dead_loss_at task path) ≡ true =
            and-right (same_live_key ranked.mill (orders_of ranked) path other) _ both in
            let even : length path ≡ length other =
            eqb-true _ _ (and-left (eqb (length path) (length other)) _ live) in
            let begins : starts task other ≡ true =
            subst (λ n. starts_class_in n task.ranked ≡ true) even s in
            let w = any-from (λ note. same_list other note.path) store.entries (there begins) in
            let is : IsNotedOf ranked charges w.0 =
            each-at (IsNotedOf ranked charges) w.0 store.entries all w.1 in
            let here : other ≡ w.0.path = same_list-eq other w.0.path w.2 in
            let same : same_key key w.0.key ≡ true =
            keys-tell ranked known path w.0.path key w.0.key (keyed s) is.key
            ∙ subst (λ p. same_live_key ranked.mill (orders_of ranked) path p ≡ true) here live in
            let low : leb w.0.dead (dead_loss_at task path) ≡ true =
            subst (λ n. leb n (dead_loss_at task path) ≡ true)
            (ap (dead_loss_at task) here ∙ sym is.dead) dead in
            let none : path_of (found store.entries key (dead_loss_at task path)) ≡ None =
            sym (ap (λ b. cond b (path_of (found store.entries key (dead_loss_at task path))) None)
            s) ∙ e in
            clash (list_any passes store.entries)
            (any-among passes w.0 store.entries (and-both _ _ same low) w.1)
            (none-passes store.entries key (dead_loss_at task path) none)
