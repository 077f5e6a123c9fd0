-- The file's orders stand by colour as in rank, so what is closed by colour is closed in the file.
use Rattle.std.proofs.lemmas.List.{length-map}
use Rattle.std.proofs.Common.{◌≡◌, List, length, subst, sym, ap, ◌∙◌, rules}
use Rattle.mill_model.specs.Charges.{charge_of}
use Rattle.mill_model.specs.Plan.{IsLegalPlan}
use Rattle.mill_model.specs.Rank.{rank}
use Rattle.mill_model.specs.declared.order.Order.{Order}
use Rattle.large_moves.specs.Coloured.{AreHomes, homes_of, orders_of, plan_of, IsByColour}
use Rattle.large_moves.specs.Laid.{Laid}
use Rattle.large_moves.specs.declared.coloured.Coloured.{Coloured}
use Rattle.large_moves.specs.Moved.{IsNoWorse, HasClosed}
use Rattle.large_moves.specs.Scans.{ClosesPairs}
use Rattle.large_moves.proofs.Betters.{plan-length}
use Rattle.large_moves.proofs.FileOrders.{by-rank, homes, count, legal-here}
use Rattle.large_moves.proofs.Promise.{moved-in-file, unmoved-in-file, laid-from}
use Rattle.large_moves.proofs.Timed.{first-times}
use Rattle.large_moves.proofs.moves.pair_moves.Goals as goal
use Rattle.large_moves.proofs.moves.pair_moves.Goals.{After-drop-start-2}

pub new-requires-clause-homes : goal.new-requires-clause-homes
new-requires-clause-homes c =
    let known = c.by_colour.ensures.kept in
    let by = by-rank c.args.ranked.now known c.in_ok-coloured.coloured.items
    c.in_ok-coloured.ensures.sorted in
    let start = c.requires.start known.problem.orders known.is.placed in
    let long = plan-length c.args.ranked.now.mill known.problem.orders c.args.start.plan
    start.legal in
    subst (λ cs. AreHomes (homes_of cs) (length c.slabs.result.now)) (sym c.deref.ensures.value)
    (subst (AreHomes (homes_of c.in_ok-coloured.coloured.items))
    (sym (ap length c.slabs.ensures ∙ long))
    (homes known.problem.orders c.in_ok-coloured.coloured.items by))

pub new-requires-clause-legal : goal.new-requires-clause-legal
new-requires-clause-legal c =
    let known = c.by_colour.ensures.kept in
    let by = by-rank c.args.ranked.now known c.in_ok-coloured.coloured.items
    c.in_ok-coloured.ensures.sorted in
    let start = c.requires.start known.problem.orders known.is.placed in
    let long = plan-length c.args.ranked.now.mill known.problem.orders c.args.start.plan
    start.legal in
    subst (λ cs. IsLegalPlan c.args.ranked.now.mill (orders_of cs)
    (plan_of cs c.slabs.result.now)) (sym c.deref.ensures.value)
    (subst (λ plan. IsLegalPlan c.args.ranked.now.mill
    (orders_of c.in_ok-coloured.coloured.items)
    (plan_of c.in_ok-coloured.coloured.items plan)) (sym c.slabs.ensures)
    (legal-here known.problem.orders c.in_ok-coloured.coloured.items by c.args.start.plan long
    c.args.ranked.now.mill start.legal))

pub put_back-requires-clause-homes : goal.put_back-requires-clause-homes
put_back-requires-clause-homes c =
    let known = c.by_colour.ensures.kept in
    let by = by-rank c.args.ranked.now known c.in_ok-coloured.coloured.items
    c.in_ok-coloured.ensures.sorted in
    subst (λ cs. AreHomes (homes_of cs) (length cs)) (sym c.deref-2.ensures.value)
    (subst (AreHomes (homes_of c.in_ok-coloured.coloured.items))
    (sym (count known.problem.orders c.in_ok-coloured.coloured.items by))
    (homes known.problem.orders c.in_ok-coloured.coloured.items by))

pub close-closed-requires-clause-times : goal.close-closed-requires-clause-times
close-closed-requires-clause-times c =
    let orders_is : c.in_ok-mover.mover.orders ≡ orders_of c.deref.result.now =
    ap (λ (laid : Laid). laid.orders) c.in_ok-mover.ensures in
    let count : c.len.result ≡ length c.in_ok-coloured.coloured.items = search rules in
    let long : c.len.result ≡ length (orders_of c.deref.result.now) = count
    ∙ sym (ap (λ (cs : List Coloured). length cs) c.deref.ensures.value)
    ∙ sym (length-map c.deref.result.now (λ c. c.order)) in
    first-times (charge_of c.args.charges.now) c.in_ok-mover.mover c.in_ok-tries.tries
    (c.in_ok-tries.ensures.slabs ∙ long ∙ sym (ap length orders_is))
    c.in_ok-tries.ensures.none

pub put_back-requires-clause-plan : goal.put_back-requires-clause-plan
put_back-requires-clause-plan c =
    let laid = c.to_plan.ensures.kept in
    let begins = c.in_ok-mover.ensures ∙ laid-from c.args.ranked.now.mill
    c.in_ok-coloured.coloured.items c.deref.result.now c.args.start.plan c.slabs.result.now
    c.deref.ensures.value c.slabs.ensures in
    ap length (c.slabs-2.ensures ∙ c.in_ok-laid.ensures.is)
    ∙ plan-length c.close-closed.new.self.mill c.close-closed.new.self.orders
    c.close-closed.new.self.plan laid.is_legal
    ∙ ap length (c.close-closed.ensures.same.orders ∙ ap (λ (laid : Laid). laid.orders) begins)
    ∙ length-map c.in_ok-coloured.coloured.items (λ c. c.order)
    ∙ sym (ap (λ (cs : List Coloured). length cs) c.deref-2.ensures.value)

pub returns-then-loss-start-clause-closed : goal.returns-then-loss-start-clause-closed
returns-then-loss-start-clause-closed c orders placed =
    let by : IsByColour (rank orders) c.in_ok-coloured.coloured.items =
    subst (λ ranked. IsByColour ranked c.in_ok-coloured.coloured.items) placed
    c.in_ok-coloured.ensures.sorted in
    let start = c.requires.start orders placed in
    unmoved-in-file c.args.ranked.now.mill (charge_of c.args.charges.now) orders
    c.in_ok-coloured.coloured.items by c.args.moves c.args.start c.close-closed.result
    (plan-length c.args.ranked.now.mill orders c.args.start.plan start.legal)
    c.in_ok-mover.mover c.close-closed.new.self
    (c.in_ok-mover.ensures ∙ laid-from c.args.ranked.now.mill
    c.in_ok-coloured.coloured.items c.deref.result.now c.args.start.plan c.slabs.result.now
    c.deref.ensures.value c.slabs.ensures) start
    (subst (λ moves. ClosesPairs (charge_of c.args.charges.now) c.in_ok-mover.mover
    c.close-closed.new.self moves c.close-closed.result) c.in_ok-tries.ensures.left
    c.close-closed.ensures.moved) c.close-closed.ensures.same
    (sym c.if-loss-start.true ∙ c.loss-loss.ensures)

promise : (c : After-drop-start-2) (orders : List Order) → c.args.ranked.now.placed ≡ rank orders →
    IsNoWorse c.args.ranked.now.mill (charge_of c.args.charges.now) orders c.args.start
    (record { plan = c.in_ok-plan.plan; loss = c.loss-loss.result })
    × HasClosed c.args.ranked.now.mill (charge_of c.args.charges.now) orders c.args.moves
    c.args.start (record { plan = c.in_ok-plan.plan; loss = c.loss-loss.result })
    c.close-closed.result
promise c orders placed =
    let coloured = c.in_ok-coloured.coloured.items in
    let by : IsByColour (rank orders) c.in_ok-coloured.coloured.items =
    subst (λ ranked. IsByColour ranked c.in_ok-coloured.coloured.items) placed
    c.in_ok-coloured.ensures.sorted in
    let start = c.requires.start orders placed in
    let long_after : length c.in_ok-plan.plan ≡ length orders =
    c.in_ok-plan.ensures.count ∙ ap (λ (cs : List Coloured). length cs) c.deref-2.ensures.value
    ∙ count orders coloured by in
    moved-in-file c.args.ranked.now.mill (charge_of c.args.charges.now) orders
    c.in_ok-coloured.coloured.items by c.args.moves c.args.start
    (record { plan = c.in_ok-plan.plan; loss = c.loss-loss.result }) c.close-closed.result
    (plan-length c.args.ranked.now.mill orders c.args.start.plan start.legal) long_after
    c.in_ok-mover.mover c.close-closed.new.self
    (c.in_ok-mover.ensures ∙ laid-from c.args.ranked.now.mill
    c.in_ok-coloured.coloured.items c.deref.result.now c.args.start.plan c.slabs.result.now
    c.deref.ensures.value c.slabs.ensures) start
    (subst (λ moves. ClosesPairs (charge_of c.args.charges.now) c.in_ok-mover.mover
    c.close-closed.new.self moves c.close-closed.result) c.in_ok-tries.ensures.left
    c.close-closed.ensures.moved) c.close-closed.ensures.same
    (sym (c.slabs-2.ensures ∙ c.in_ok-laid.ensures.is) ∙ sym c.in_ok-plan.ensures.back
    ∙ ap (λ cs. plan_of cs c.in_ok-plan.plan) c.deref-2.ensures.value)
    c.to_plan.ensures.kept.is_legal c.loss-loss.ensures

pub returns-clause-no_worse : goal.returns-clause-no_worse
returns-clause-no_worse c orders placed = (promise c orders placed).0

pub returns-clause-closed : goal.returns-clause-closed
returns-clause-closed c orders placed = (promise c orders placed).1
