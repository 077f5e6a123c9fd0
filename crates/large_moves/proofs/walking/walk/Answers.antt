-- The file's orders stand by colour as in rank, so a plan by colour loses in the file what it
-- loses there.
use Rattle.std.proofs.Common.{◌≡◌, ℕ, List, length, true, subst, sym, ap, ◌∙◌}
use Rattle.std.proofs.lemmas.List.{length-map}
use Rattle.mill_model.specs.Charges.{charge_of}
use Rattle.mill_model.specs.Instance.{mill_of}
use Rattle.mill_model.specs.Plan.{numbers_each, IsPlanWithLoss}
use Rattle.mill_model.specs.Rank.{rank}
use Rattle.mill_model.specs.Slab.{Mill}
use Rattle.mill_model.specs.declared.order.Order.{Order}
use Rattle.large_moves.specs.Coloured.{AreHomes, homes_of, orders_of, plan_of, IsByColour}
use Rattle.large_moves.specs.declared.coloured.Coloured.{Coloured}
use Rattle.large_moves.proofs.Betters.{plan-length}
use Rattle.large_moves.proofs.FileOrders.{by-rank, homes, count, legal-here}
use Rattle.large_moves.proofs.Walked.{walked}
use Rattle.large_moves.proofs.walking.walk.Goals as goal

pub read_plan-requires : goal.read_plan-requires
read_plan-requires c =
    let known = c.by_colour.ensures.kept in
    let by = by-rank c.args.ranked.now known c.in_ok-coloured.coloured.items
    c.in_ok-coloured.ensures.sorted in
    let start = c.requires.start known.problem.orders known.is.placed in
    let long = plan-length c.args.ranked.now.mill known.problem.orders c.args.start.plan
    start.legal in
    subst (λ cs. AreHomes (homes_of cs) (length c.slabs.result.now))
    (sym c.deref-2.ensures.value)
    (subst (AreHomes (homes_of c.in_ok-coloured.coloured.items))
    (sym (ap length c.slabs.ensures ∙ long))
    (homes known.problem.orders c.in_ok-coloured.coloured.items by))

pub better_plan-requires-clause-each : goal.better_plan-requires-clause-each
better_plan-requires-clause-each c =
    let known = c.by_colour.ensures.kept in
    let by = by-rank c.args.ranked.now known c.in_ok-coloured.coloured.items
    c.in_ok-coloured.ensures.sorted in
    let start = c.requires.start known.problem.orders known.is.placed in
    let long = plan-length c.args.ranked.now.mill known.problem.orders c.args.start.plan
    start.legal in
    let coloured = c.in_ok-coloured.coloured.items in
    let plan_is : c.from_list-plan.result
    ≡ plan_of c.in_ok-coloured.coloured.items c.args.start.plan =
    c.from_list-plan.ensures ∙ c.in_ok-read_plan.ensures
    ∙ ap (λ (cs : List Coloured). plan_of cs c.slabs.result.now) c.deref-2.ensures.value
    ∙ ap (λ (plan : List ℕ). plan_of c.in_ok-coloured.coloured.items plan) c.slabs.ensures in
    let orders_is : c.in_ok-instance.instance.orders
    ≡ orders_of c.in_ok-coloured.coloured.items =
    c.in_ok-instance.ensures.orders
    ∙ ap (λ (cs : List Coloured). orders_of cs) c.deref.ensures.value in
    subst (λ (os : List Order). numbers_each c.from_list-plan.result os ≡ true) (sym orders_is)
    (subst (λ (plan : List ℕ). numbers_each plan
    (orders_of c.in_ok-coloured.coloured.items) ≡ true) (sym plan_is)
    (legal-here known.problem.orders coloured by c.args.start.plan long c.args.ranked.now.mill
    start.legal).each)

pub put_back-requires-clause-homes : goal.put_back-requires-clause-homes
put_back-requires-clause-homes c =
    let known = c.by_colour.ensures.kept in
    let by = by-rank c.args.ranked.now known c.in_ok-coloured.coloured.items
    c.in_ok-coloured.ensures.sorted in
    subst (λ cs. AreHomes (homes_of cs) (length cs)) (sym c.deref-3.ensures.value)
    (subst (AreHomes (homes_of c.in_ok-coloured.coloured.items))
    (sym (count known.problem.orders c.in_ok-coloured.coloured.items by))
    (homes known.problem.orders c.in_ok-coloured.coloured.items by))

pub put_back-requires-clause-plan : goal.put_back-requires-clause-plan
put_back-requires-clause-plan c =
    let better = rw c.in-Some.is at c.in_ok-found.ensures in
    ap length c.slabs-2.ensures
    ∙ plan-length (mill_of c.in_ok-instance.instance) c.in_ok-instance.instance.orders
    c.in-Some.found.plan better.plan.legal
    ∙ ap length c.in_ok-instance.ensures.orders
    ∙ length-map c.deref.result.now (λ c. c.order)
    ∙ ap (λ (cs : List Coloured). length cs) c.deref.ensures.value
    ∙ sym (ap (λ (cs : List Coloured). length cs) c.deref-3.ensures.value)

pub returns-clause-no_worse : goal.returns-clause-no_worse
returns-clause-no_worse c orders placed =
    let charge : ℕ → ℕ = charge_of c.args.charges.now in
    let coloured = c.in_ok-coloured.coloured.items in
    let by : IsByColour (rank orders) c.in_ok-coloured.coloured.items =
    subst (λ ranked. IsByColour ranked c.in_ok-coloured.coloured.items) placed
    c.in_ok-coloured.ensures.sorted in
    let long : length c.in_ok-plan.plan ≡ length orders =
    c.in_ok-plan.ensures.count ∙ ap (λ (cs : List Coloured). length cs) c.deref-3.ensures.value
    ∙ count orders coloured by in
    let better = rw c.in-Some.is at c.in_ok-found.ensures in
    let orders_is : c.in_ok-instance.instance.orders
    ≡ orders_of c.in_ok-coloured.coloured.items =
    c.in_ok-instance.ensures.orders
    ∙ ap (λ (cs : List Coloured). orders_of cs) c.deref.ensures.value in
    let plan_is : c.in-Some.found.plan
    ≡ plan_of c.in_ok-coloured.coloured.items c.in_ok-plan.plan =
    sym c.slabs-2.ensures ∙ sym c.in_ok-plan.ensures.back
    ∙ ap (λ (cs : List Coloured). plan_of cs c.in_ok-plan.plan) c.deref-3.ensures.value in
    walked c.args.ranked.now.mill charge orders coloured by c.args.start
    (record { plan = c.in_ok-plan.plan; loss = c.in-Some.found.loss }) long
    (subst (λ (mill : Mill). IsPlanWithLoss mill (charge_of c.args.charges.now)
    (orders_of c.in_ok-coloured.coloured.items)
    (plan_of c.in_ok-coloured.coloured.items c.in_ok-plan.plan) c.in-Some.found.loss)
    c.in_ok-instance.ensures.mill
    (subst (λ (os : List Order). IsPlanWithLoss (mill_of c.in_ok-instance.instance)
    (charge_of c.args.charges.now) os
    (plan_of c.in_ok-coloured.coloured.items c.in_ok-plan.plan) c.in-Some.found.loss) orders_is
    (subst (λ (plan : List ℕ). IsPlanWithLoss (mill_of c.in_ok-instance.instance)
    (charge_of c.args.charges.now) c.in_ok-instance.instance.orders plan
    c.in-Some.found.loss) plan_is better.plan)))
    better.less
