use Rattle.std.proofs.Common.{◌≡◌, length}
use Rattle.std.specs.List.{All}
use Rattle.mill_model.specs.Instance.{IsOrder}
use Rattle.greedy_start.proofs.tests.orders_from.Given as goal

abbrev pub invariant-loop-weight : goal.invariant-loop-weight
invariant-loop-weight l = All IsOrder l.list.items × (length l.list.items ≡ l.weight-index)
