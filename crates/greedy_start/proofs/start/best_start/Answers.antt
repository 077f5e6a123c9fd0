-- Both losses are those of the paths that first fit and best fit give. Where best fit loses less,
-- its path is the better one, and else that of first fit; so the plan and the loss of the one that
-- is taken are those of the better path.
use Rattle.std.proofs.Common.{ℕ, List, ◌≡◌, ◌∙◌}
use Rattle.mill_model.specs.Charges.{charge_of}
use Rattle.mill_model.specs.Starts.{best_fit_loss, first_fit_loss}
use Rattle.mill_model.specs.declared.order.Order.{Order}
use Rattle.order_symmetry.specs.Ranked.{orders_of}
use Rattle.greedy_start.proofs.Wholes.{better-best, better-first, least-best, least-first}
use Rattle.greedy_start.proofs.Wholes.{plan-is}
use Rattle.greedy_start.proofs.start.best_start.Goals as goal

pub returns-in_ok-into_plan-clause-plan : goal.returns-in_ok-into_plan-clause-plan
returns-in_ok-into_plan-clause-plan c =
    let charge : ℕ → ℕ = charge_of c.args.charges.now in
    let orders : List Order = orders_of c.args.ranked.now in
    let first : c.loss-first_loss.result ≡ first_fit_loss c.args.ranked.now.mill charge orders =
    rw (c.in_ok-first.ensures.ranked, c.in_ok-first.ensures.numbers)
    at c.loss-first_loss.ensures in
    let best : c.loss-best_loss.result ≡ best_fit_loss c.args.ranked.now.mill charge orders =
    rw (c.in_ok-best.ensures.ranked, c.in_ok-best.ensures.numbers) at c.loss-best_loss.ensures in
    plan-is c.args.ranked.now c.in_ok-best.best.ranked.now _ c.in_ok-best.best.numbers.items
    c.in_ok-into_plan.field-0 c.in_ok-best.ensures.ranked
    (c.in_ok-best.ensures.numbers ∙ better-best c.args.ranked.now.mill charge orders
    c.loss-first_loss.result c.loss-best_loss.result first best c.if-best_loss-first_loss.true)
    c.in_ok-into_plan.ensures.is

pub returns-in_ok-into_plan-clause-least : goal.returns-in_ok-into_plan-clause-least
returns-in_ok-into_plan-clause-least c =
    let charge : ℕ → ℕ = charge_of c.args.charges.now in
    let orders : List Order = orders_of c.args.ranked.now in
    let first : c.loss-first_loss.result ≡ first_fit_loss c.args.ranked.now.mill charge orders =
    rw (c.in_ok-first.ensures.ranked, c.in_ok-first.ensures.numbers)
    at c.loss-first_loss.ensures in
    let best : c.loss-best_loss.result ≡ best_fit_loss c.args.ranked.now.mill charge orders =
    rw (c.in_ok-best.ensures.ranked, c.in_ok-best.ensures.numbers) at c.loss-best_loss.ensures in
    least-best c.args.ranked.now.mill charge orders c.loss-first_loss.result
    c.loss-best_loss.result first best c.if-best_loss-first_loss.true

pub returns-in_ok-into_plan-2-clause-plan : goal.returns-in_ok-into_plan-2-clause-plan
returns-in_ok-into_plan-2-clause-plan c =
    let charge : ℕ → ℕ = charge_of c.args.charges.now in
    let orders : List Order = orders_of c.args.ranked.now in
    let first : c.loss-first_loss.result ≡ first_fit_loss c.args.ranked.now.mill charge orders =
    rw (c.in_ok-first.ensures.ranked, c.in_ok-first.ensures.numbers)
    at c.loss-first_loss.ensures in
    let best : c.loss-best_loss.result ≡ best_fit_loss c.args.ranked.now.mill charge orders =
    rw (c.in_ok-best.ensures.ranked, c.in_ok-best.ensures.numbers) at c.loss-best_loss.ensures in
    plan-is c.args.ranked.now c.in_ok-first.first.ranked.now _ c.in_ok-first.first.numbers.items
    c.in_ok-into_plan-2.field-0 c.in_ok-first.ensures.ranked
    (c.in_ok-first.ensures.numbers ∙ better-first c.args.ranked.now.mill charge orders
    c.loss-first_loss.result c.loss-best_loss.result first best c.if-best_loss-first_loss.false)
    c.in_ok-into_plan-2.ensures.is

pub returns-in_ok-into_plan-2-clause-least : goal.returns-in_ok-into_plan-2-clause-least
returns-in_ok-into_plan-2-clause-least c =
    let charge : ℕ → ℕ = charge_of c.args.charges.now in
    let orders : List Order = orders_of c.args.ranked.now in
    let first : c.loss-first_loss.result ≡ first_fit_loss c.args.ranked.now.mill charge orders =
    rw (c.in_ok-first.ensures.ranked, c.in_ok-first.ensures.numbers)
    at c.loss-first_loss.ensures in
    let best : c.loss-best_loss.result ≡ best_fit_loss c.args.ranked.now.mill charge orders =
    rw (c.in_ok-best.ensures.ranked, c.in_ok-best.ensures.numbers) at c.loss-best_loss.ensures in
    least-first c.args.ranked.now.mill charge orders c.loss-first_loss.result
    c.loss-best_loss.result first best c.if-best_loss-first_loss.false
