use Rattle.std.proofs.Common.{◌≤◌, length}
use Rattle.std.specs.List.{All}
use Rattle.mill_model.specs.Instance.{IsOrder}
use Rattle.replay_trials.proofs.grid.orders_of.Given as goal

abbrev pub invariant-loop : goal.invariant-loop
invariant-loop l = All IsOrder l.orders.items × (length l.orders.items ≤ l.counter)
