use Rattle.std.proofs.Common.{◌<◌, ◌∙◌, length, ap, subst}
use Rattle.std.specs.Prelude.{All}
use Rattle.judge_answer.proofs.Numbered.{numbers-from}
use Rattle.slab_trials.proofs.least.least_loss.Goals as goal

pub judge-requires-clause-each : goal.judge-requires-clause-each
judge-requires-clause-each c =
    let orders = c.args.instance.now.orders in
    let same = ap length c.orders-orders.ensures.is in
    numbers-from orders c.in_ok-plan.plan (c.in_ok-plan.ensures.count ∙ same)
    (subst (λ n. All (λ slab. slab < n) c.in_ok-plan.plan) same c.in_ok-plan.ensures.below)
