use Rattle.std.proofs.Common.{sym, subst}
use Rattle.std.specs.List.{All}
use Rattle.std.proofs.lemmas.List.Elements.{All-push}
use Rattle.mill_model.specs.Instance.{IsOrder}
use Rattle.log_trials.proofs.trials.orders_of.Goals as goal

pub loop-place-preserved : goal.loop-place-preserved
loop-place-preserved c =
    subst (All IsOrder) (sym c.in_ok-push.ensures.items)
    (All-push IsOrder c.loop-place.orders.items c.order_at.result c.loop-place.invariant
    c.order_at.ensures)
