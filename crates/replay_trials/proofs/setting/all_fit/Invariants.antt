use Rattle.std.proofs.Common.{ℕ, ◌<◌, ◌≤◌, get_or}
use Rattle.mill_model.specs.declared.order.Order.{Order}
use Rattle.order_symmetry.specs.Ranked.{orders_of}
use Rattle.replay_trials.proofs.setting.all_fit.Given as goal

abbrev pub invariant-loop-rank : goal.invariant-loop-rank
invariant-loop-rank l =
    (i : ℕ) → i < l.rank → (d : Order) →
    (get_or (orders_of l.ranked) i d).weight ≤ l.ranked.mill.largest
