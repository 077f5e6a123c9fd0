-- Paths that place all orders, and the better of two.
use Rattle.std.proofs.Common.{ℕ, suc, ◌<◌, ◌≤◌, ◌≡◌, true, false, cond, List, length, leb, ltb}
use Rattle.std.proofs.Common.{◌∙◌, sym, subst, arith, inl, inr, leb-true, leb-false, lt-ltb}
use Rattle.std.proofs.lemmas.Bool.Decides.{nat_tests}
use Rattle.std.proofs.lemmas.List.{length-map}
use Rattle.mill_model.specs.Slab.{Mill, legal}
use Rattle.mill_model.specs.Plan.{IsLegalPlan}
use Rattle.mill_model.specs.Rank.{rank}
use Rattle.mill_model.specs.Starts.{best_fit_loss, best_fit_path, best_start_loss, first_fit_loss}
use Rattle.mill_model.specs.Starts.{first_fit_path}
use Rattle.mill_model.specs.declared.order.Order.{Order}
use Rattle.list_laws.proofs.Tests.{either}
use Rattle.mill_model.proofs.Slabs.{legal-none}
use Rattle.mill_laws.proofs.Groups.{slab-new}
use Rattle.mill_laws.proofs.Legal.{legal-from}
use Rattle.order_symmetry.specs.Ranked.{RankedOrders, IsPlanOf, orders_of}
use Rattle.slab_rules.specs.OpenSlab.{OpenSlab, empty_on}
use Rattle.slab_rules.proofs.Joined.{bounds-legal}
use Rattle.split_tree.specs.Groups.{slab_at}
use Rattle.split_tree.specs.Node.{Node, IsGroup, AreGroups, group_of}
use Rattle.split_tree.proofs.Joins.{slab_at-get}
use Rattle.greedy_start.specs.Start.{better_path}

-- open slabs that are the groups of a path of all orders make it a legal plan
module _ (node : Node) (groups : List OpenSlab) (is : AreGroups node groups) where
  group-fits : (s : ℕ) → legal node.ranked.mill (group_of node s) ≡ true
  group-fits s = elim (either (leb (suc s) (length groups))) [
    | inl h ↦ (let open_slab = slab_at (empty_on node.ranked.mill) groups s in
        let group : IsGroup node s open_slab =
        is.each s open_slab (slab_at-get (empty_on node.ranked.mill) groups s (leb-true _ _ h)) in
        subst (λ (mill : Mill). legal mill (group_of node s) ≡ true) group.mill
        ((bounds-legal open_slab (group_of node s) group.open_slab.once group.carries).0
        group.open_slab.bounds))
    | inr h ↦ (let above : length groups ≤ s = omega (arith, leb-false _ _ h) in
        rw (slab-new s node.path (orders_of node.ranked) (omega (arith, is.count)))
        (legal-none node.ranked.mill))
  ]

  pub groups-legal : length groups ≤ length node.path →
      length node.path ≡ length node.ranked.placed →
      IsLegalPlan node.ranked.mill (orders_of node.ranked) node.path
  groups-legal few whole =
      let long : length node.path ≡ length (orders_of node.ranked) =
      whole ∙ sym (length-map node.ranked.placed (λ p. p.order)) in
      legal-from node.ranked.mill (orders_of node.ranked) node.path long
      (omega (arith, is.count, few, long)) group-fits

-- the better path and its loss, by the two losses
module _ (mill : Mill) (charge : ℕ → ℕ) (ranked : List Order) (first best : ℕ)
    (first_is : first ≡ first_fit_loss mill charge ranked)
    (best_is : best ≡ best_fit_loss mill charge ranked) where
  pub better-best : best < first → best_fit_path mill charge ranked
      ≡ better_path mill charge ranked
  better-best less = by-test (best_fit_loss mill charge ranked) (first_fit_loss mill charge ranked)
      (omega (arith, first_is, best_is, less))
    where
      by-test : (b f : ℕ) → b < f → best_fit_path mill charge ranked
          ≡ cond (ltb b f) (best_fit_path mill charge ranked) (first_fit_path mill ranked)
      by-test b f l = rw (lt-ltb b f l)

  pub better-first : first ≤ best → first_fit_path mill ranked ≡ better_path mill charge ranked
  better-first no_less =
      by-test (best_fit_loss mill charge ranked) (first_fit_loss mill charge ranked)
      (omega (arith, first_is, best_is, no_less))
    where
      by-test : (b f : ℕ) → f ≤ b → first_fit_path mill ranked
          ≡ cond (ltb b f) (best_fit_path mill charge ranked) (first_fit_path mill ranked)
      by-test b f l = let no : ltb b f ≡ false = grind (arith, nat_tests) in rw no

  pub least-best : best < first → best ≡ best_start_loss mill charge ranked
  least-best less = omega (arith, first_is, best_is)

  pub least-first : first ≤ best → first ≡ best_start_loss mill charge ranked
  least-first no_less = omega (arith, first_is, best_is)

-- the plan of a path that is another by equations
pub plan-is : (ranked given : RankedOrders) (path numbers plan : List ℕ) → given ≡ ranked →
    numbers ≡ path →
    ((orders : List Order) → given.placed ≡ rank orders → IsPlanOf orders numbers plan) →
    (orders : List Order) → ranked.placed ≡ rank orders → IsPlanOf orders path plan
plan-is ranked given path numbers plan same is plan_of =
    subst (λ (r : RankedOrders). (orders : List Order) → r.placed ≡ rank orders →
    IsPlanOf orders path plan) same
    (subst (λ (p : List ℕ). (orders : List Order) → given.placed ≡ rank orders →
    IsPlanOf orders p plan) is plan_of)
