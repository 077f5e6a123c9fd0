-- A mover for orders by colour: they are laid, and what it holds is of their number.
use Rattle.std.proofs.Common.{◌≡◌, ◌<◌, ◌≤◌, true, ℕ, All, length, get_or, subst, sym, ap, ◌∙◌}
use Rattle.std.proofs.Common.{List, arith, rules}
use Rattle.mill_model.specs.Instance.{IsOrder}
use Rattle.mill_model.specs.Plan.{numbers_each, slab}
use Rattle.mill_model.specs.Slab.{load}
use Rattle.mill_model.specs.declared.order.TheConstants.{MAX_ORDERS}
use Rattle.large_moves.specs.Coloured.{orders_of, plan_of}
use Rattle.large_moves.specs.Laid.{Laid, IsLaid}
use Rattle.index_links.specs.Lists.{plan_of as listed_plan}
use Rattle.plan_check.proofs.Slabs.{each-length}
use Rattle.large_moves.proofs.Betters.{plan-below}
use Rattle.large_moves.proofs.FileOrders.{laid-by}
use Rattle.large_moves.proofs.mover.Mover.new.Goals as goal

pub slab_loads-requires-clause-few : goal.slab_loads-requires-clause-few
slab_loads-requires-clause-few c =
    let orders_is : c.deref.result.now ≡ orders_of c.args.coloured.now =
    c.deref.ensures.value ∙ c.in_ok-orders.ensures in
    let laid = laid-by c.args.ranked.now c.p.ensures.kept c.args.coloured.now c.requires.sorted
    (plan_of c.args.coloured.now c.args.slabs.now) c.requires.legal in
    subst (λ os. length os ≤ MAX_ORDERS) (sym orders_is) laid.few

pub slab_loads-requires-clause-within : goal.slab_loads-requires-clause-within
slab_loads-requires-clause-within c =
    let orders_is : c.deref.result.now ≡ orders_of c.args.coloured.now =
    c.deref.ensures.value ∙ c.in_ok-orders.ensures in
    let laid = laid-by c.args.ranked.now c.p.ensures.kept c.args.coloured.now c.requires.sorted
    (plan_of c.args.coloured.now c.args.slabs.now) c.requires.legal in
    subst (All IsOrder) (sym orders_is) laid.each

pub slab_loads-requires-clause-each : goal.slab_loads-requires-clause-each
slab_loads-requires-clause-each c =
    let orders_is : c.deref.result.now ≡ orders_of c.args.coloured.now =
    c.deref.ensures.value ∙ c.in_ok-orders.ensures in
    let laid = laid-by c.args.ranked.now c.p.ensures.kept c.args.coloured.now c.requires.sorted
    (plan_of c.args.coloured.now c.args.slabs.now) c.requires.legal in
    let plan_is : c.deref-2.result.now ≡ plan_of c.args.coloured.now c.args.slabs.now =
    c.deref-2.ensures.value ∙ c.in_ok-plan.ensures in
    subst (λ os. numbers_each c.deref-2.result.now os ≡ true) (sym orders_is)
    (subst (λ plan. numbers_each plan (orders_of c.args.coloured.now) ≡ true) (sym plan_is)
    c.requires.legal.each)

pub new-requires-3-clause-few : goal.new-requires-3-clause-few
new-requires-3-clause-few c =
    let laid = laid-by c.args.ranked.now c.p.ensures.kept c.args.coloured.now c.requires.sorted
    (plan_of c.args.coloured.now c.args.slabs.now) c.requires.legal in
    let long = each-length (plan_of c.args.coloured.now c.args.slabs.now)
    (orders_of c.args.coloured.now) c.requires.legal.each in
    subst (λ (plan : List ℕ). length plan ≤ MAX_ORDERS)
    (sym (c.from_list.ensures ∙ c.in_ok-plan.ensures)) (omega (arith, long, laid.few))

pub new-requires-3-clause-below : goal.new-requires-3-clause-below
new-requires-3-clause-below c =
    subst (λ (plan : List ℕ). All (λ s. s < length plan) plan)
    (sym (c.from_list.ensures ∙ c.in_ok-plan.ensures))
    (plan-below (plan_of c.args.coloured.now c.args.slabs.now) (orders_of c.args.coloured.now)
    c.requires.legal.each)

pub invariant_of-result : goal.invariant_of-result
invariant_of-result c =
    let mill_is : c.in_ok-splitter.splitter ≡ c.args.ranked.now.mill =
    c.in_ok-splitter.ensures
    ∙ (λ i. record { largest = c.largest.ensures.is i; most_colours = c.p.ensures.is i }) in
    let laid = laid-by c.args.ranked.now c.p.ensures.kept c.args.coloured.now c.requires.sorted
    (plan_of c.args.coloured.now c.args.slabs.now) c.requires.legal in
    let listed : listed_plan c.in_ok-links.links ≡ c.in_ok-plan.plan.items =
    c.in_ok-links.ensures.plan ∙ c.from_list.ensures in
    let plan_is : listed_plan c.in_ok-links.links
    ≡ plan_of c.args.coloured.now c.args.slabs.now = listed ∙ c.in_ok-plan.ensures in
    record {
      is_laid = subst (λ (l : Laid). IsLaid l) (sym (λ i. record {
        mill = mill_is i;
        orders = c.in_ok-orders.ensures i;
        plan = plan_is i;
      })) laid;
      are_lists = c.in_ok-links.ensures.kept;
      are_loads = record {
        count = c.in_ok-loads.ensures.count ∙ ap length c.deref.ensures.value;
        at = subst (λ os. (s : ℕ) → s < length os → get_or c.in_ok-loads.loads.items s 0
            ≡ load (slab s (listed_plan c.in_ok-links.links) os)) c.deref.ensures.value
            (subst (λ plan. (s : ℕ) → s < length c.deref.result.now →
            get_or c.in_ok-loads.loads.items s 0 ≡ load (slab s plan c.deref.result.now))
            (c.deref-2.ensures.value ∙ sym listed) c.in_ok-loads.ensures.each);
      };
      place_room = c.in_ok-room.ensures.places ∙ ap length c.deref-3.ensures.value;
      item_room = c.in_ok-room.ensures.items ∙ ap length c.deref-3.ensures.value;
      mark_room = search rules;
    }

pub returns : goal.returns
returns c =
    let mill_is : c.in_ok-splitter.splitter ≡ c.args.ranked.now.mill =
    c.in_ok-splitter.ensures
    ∙ (λ i. record { largest = c.largest.ensures.is i; most_colours = c.p.ensures.is i }) in
    let plan_is : listed_plan c.in_ok-links.links
    ≡ plan_of c.args.coloured.now c.args.slabs.now =
    c.in_ok-links.ensures.plan ∙ c.from_list.ensures ∙ c.in_ok-plan.ensures in
    λ i. record {
      mill = mill_is i;
      orders = c.in_ok-orders.ensures i;
      plan = plan_is i;
    }
