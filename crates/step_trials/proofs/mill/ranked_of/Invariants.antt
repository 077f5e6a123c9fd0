use Rattle.std.proofs.Common.{◌≡◌, length}
use Rattle.std.specs.List.{All}
use Rattle.mill_model.specs.Instance.{IsOrder}
use Rattle.step_trials.proofs.mill.ranked_of.Given as goal

abbrev pub invariant-loop-weight : goal.invariant-loop-weight
invariant-loop-weight l = All IsOrder l.list.items × (length l.list.items ≡ l.weight-index)
