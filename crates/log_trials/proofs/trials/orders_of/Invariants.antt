use Rattle.std.specs.List.{All}
use Rattle.mill_model.specs.Instance.{IsOrder}
use Rattle.log_trials.proofs.trials.orders_of.Given as goal

abbrev pub invariant-loop-place : goal.invariant-loop-place
invariant-loop-place l = All IsOrder l.orders.items
