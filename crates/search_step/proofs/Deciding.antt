-- What is decided of a path is its verdict.
use Rattle.std.proofs.Common.{ℕ, ◌<◌, ◌≤◌, ◌≡◌, Bool, true, false, cond, ◌&&◌, not, ltb, List, []}
use Rattle.std.proofs.Common.{length, Some, None, refl, sym, ap, ◌∙◌, subst, arith}
use Rattle.std.proofs.Common.{lt-ltb, le-ltb, eq-eqb, ne_eqb}
use Rattle.std.proofs.lemmas.List.{length-map}
use Rattle.list_laws.proofs.Sums.{total-beyond}
use Rattle.list_laws.proofs.Tests.{and-right, clash}
use Rattle.mill_model.specs.Charges.{ChargeTable, charge_of}
use Rattle.mill_model.specs.Slab.{load}
use Rattle.mill_model.specs.Plan.{slab}
use Rattle.mill_model.specs.Tree.{next_new, children}
use Rattle.mill_laws.proofs.Groups.{slab-new}
use Rattle.mill_laws.proofs.Paths.{tree-bound, tree-length}
use Rattle.order_symmetry.specs.Ranked.{RankedOrders, orders_of}
use Rattle.split_tree.specs.Node.{Node, IsNode, groups_loss}
use Rattle.split_tree.specs.Keys.{Key, IsLiveKey}
use Rattle.nogood_store.specs.Entries.{Stored, found, path_of}
use Rattle.search_step.specs.Moves.{closes, dead_loss_at, exceeds, first_prices, found_at}
use Rattle.search_step.specs.Moves.{is_leaf, loss_at, second_prices, starts}
use Rattle.search_step.specs.Moves.{verdict_open}
use Rattle.search_step.specs.Decided.{Decides, DecidesInner, DecidesLeaf, DecidesOpen}
use Rattle.search_step.specs.Steps.{IsPlanAt, task_at}
use Rattle.search_step.specs.declared.parts.Verdict.{Verdict}
use Rattle.search_step.specs.declared.parts.Verdict.TheVariants.{Better, Plain, ByPrices, ByOther}
use Rattle.search_step.specs.declared.parts.Verdict.TheVariants.{Open}

-- no key, where none is asked for
abbrev no-key : Key
no-key = record { depth = 0; groups = [] }

module _ (ranked : RankedOrders) (charges : ChargeTable) (path : List ℕ) where
  abbrev node : Node
  node = record { ranked = ranked; path = path }

  -- what the groups of a path in the tree are charged is the loss of its plan
  pub groups-lose : IsNode node → groups_loss (charge_of charges) node
      ≡ loss_at (task_at ranked charges) path
  groups-lose is =
      sym (total-beyond (next_new path) (length (orders_of ranked))
      (λ s. charge_of charges (load (slab s path (orders_of ranked)))) few
      (λ s k. rw (slab-new s path (orders_of ranked) k) charges.free))
    where
      few : next_new path ≤ length (orders_of ranked)
      few =
          let bound : next_new path ≤ length path =
          tree-bound ranked.mill (orders_of ranked) path is.tree in
          let short : length path ≤ length (orders_of ranked) =
          tree-length ranked.mill (orders_of ranked) path is.tree in
          omega arith

  pub leaf-better : (known l : ℕ) (plan : List ℕ) → l ≡ loss_at (task_at ranked charges) path →
      l < known → IsPlanAt ranked path plan →
      DecidesLeaf ranked charges known path (Better (record { plan = plan; loss = l }))
  leaf-better known l plan e low is = record {
    plan = plan;
    of_path = λ _. is;
    is =
        let less : ltb (loss_at (task_at ranked charges) path) known ≡ true =
        lt-ltb _ _ (subst (λ (n : ℕ). n < known) e low) in
        rw (less, e) refl;
  }

  pub leaf-plain : (known l : ℕ) → l ≡ loss_at (task_at ranked charges) path → known ≤ l →
      DecidesLeaf ranked charges known path Plain
  leaf-plain known l e high =
      let more : ltb (loss_at (task_at ranked charges) path) known ≡ false =
      le-ltb _ _ (subst (λ (n : ℕ). known ≤ n) e high) in
      record {
        plan = [];
        of_path =
            λ h. absurd (clash (ltb (loss_at (task_at ranked charges) path) known)
            (and-right (is_leaf (task_at ranked charges) path) _ h) more);
        is = rw more refl;
      }

  module _ (store : Stored) where
    -- where a class starts: by another path, or with a note
    module _ (start : starts (task_at ranked charges) path ≡ true) (key : Key) (dead : ℕ)
        (is : IsLiveKey node key) (e : dead ≡ dead_loss_at (task_at ranked charges) path) where
      found-there : found_at (task_at ranked charges) store key path
          ≡ path_of (found store.entries key dead)
      found-there = rw (start, e) refl

      pub open-other : (other : List ℕ) → Some other ≡ path_of (found store.entries key dead) →
          DecidesOpen ranked charges store path (ByOther other)
      open-other other h = record {
        key = key;
        of_path = λ _. is;
        is = ap (verdict_open (task_at ranked charges) key path) (h ∙ sym found-there);
      }

      pub open-noted : (paths : List (List ℕ)) →
          paths ≡ children ranked.mill (orders_of ranked) path →
          None ≡ path_of (found store.entries key dead) → DecidesOpen ranked charges store path
          (Open paths (Some (record { key = key; dead = dead; path = path })))
      open-noted paths c h = record {
        key = key;
        of_path = λ _. is;
        is =
            rw (c, e) (ap (λ b. Open (children ranked.mill (orders_of ranked) path)
            (cond b (Some (record {
              key = key;
              dead = dead_loss_at (task_at ranked charges) path;
              path = path;
            })) None)) (sym start))
            ∙ ap (verdict_open (task_at ranked charges) key path) (h ∙ sym found-there);
      }

    pub open-plain : (paths : List (List ℕ)) → starts (task_at ranked charges) path ≡ false →
        paths ≡ children ranked.mill (orders_of ranked) path →
        DecidesOpen ranked charges store path (Open paths None)
    open-plain paths inside c = record {
      key = no-key;
      of_path = λ h. absurd (clash (starts (task_at ranked charges) path) h inside);
      is =
          let none : found_at (task_at ranked charges) store no-key path ≡ None =
          rw inside refl in
          rw c (ap (λ b. Open (children ranked.mill (orders_of ranked) path)
          (cond b (Some (record {
            key = no-key;
            dead = dead_loss_at (task_at ranked charges) path;
            path = path;
          })) None)) (sym inside))
          ∙ ap (verdict_open (task_at ranked charges) no-key path) (sym none);
    }

    module _ (known : ℕ) where
      pub inner-first : exceeds (task_at ranked charges) known path
          (first_prices (task_at ranked charges) path) ≡ true →
          DecidesInner ranked charges known store path
          (ByPrices (first_prices (task_at ranked charges) path))
      inner-first e = record {
        key = no-key;
        of_path = λ h. absurd (clash true refl (rw e at h));
        is = rw e refl;
      }

      pub inner-second : exceeds (task_at ranked charges) known path
          (first_prices (task_at ranked charges) path) ≡ false →
          exceeds (task_at ranked charges) known path
          (second_prices (task_at ranked charges) path) ≡ true →
          DecidesInner ranked charges known store path
          (ByPrices (second_prices (task_at ranked charges) path))
      inner-second e f = record {
        key = no-key;
        of_path = λ h. absurd (clash true refl (rw (e, f) at h));
        is = rw (e, f) refl;
      }

      pub inner-open : exceeds (task_at ranked charges) known path
          (first_prices (task_at ranked charges) path) ≡ false →
          exceeds (task_at ranked charges) known path
          (second_prices (task_at ranked charges) path) ≡ false →
          (v : Verdict) → DecidesOpen ranked charges store path v →
          DecidesInner ranked charges known store path v
      inner-open e f v d = record {
        key = d.key;
        of_path = λ _. d.of_path;
        is = rw (e, f) d.is;
      }

      pub of-leaf : length path ≡ length ranked.placed → (v : Verdict) →
          DecidesLeaf ranked charges known path v → Decides ranked charges known store path v
      of-leaf e v d =
          let leaf : is_leaf (task_at ranked charges) path ≡ true =
          eq-eqb _ _ (e ∙ sym (length-map ranked.placed (λ x. x.order))) in
          record {
            key = no-key;
            plan = d.plan;
            are = record {
              asked = λ h. absurd (clash false (rw leaf at h) refl);
              lowered = d.of_path;
            };
            is = rw leaf d.is;
          }

      pub of-inner : length path < length ranked.placed → (v : Verdict) →
          DecidesInner ranked charges known store path v → Decides ranked charges known store path v
      of-inner l v d =
          let long : length (orders_of ranked) ≡ length ranked.placed =
          length-map ranked.placed (λ x. x.order) in
          let inner : is_leaf (task_at ranked charges) path ≡ false =
          ne_eqb _ _ (λ q. absurd (let same : length path ≡ length (orders_of ranked) = q in
          omega arith)) in
          record {
            key = d.key;
            plan = [];
            are = record {
              asked = λ h. parts (closes (task_at ranked charges) known path) refl (rw inner at h);
              lowered = λ h. absurd (clash false (rw inner at h) refl);
            };
            is = rw inner d.is;
          }
        where
          parts : (b : Bool) → closes (task_at ranked charges) known path ≡ b →
              (not b && starts (task_at ranked charges) path) ≡ true → IsLiveKey node d.key
          parts false e h = d.of_path e h
          parts true e h = absurd (clash false h refl)
