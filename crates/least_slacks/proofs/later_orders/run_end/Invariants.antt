use Rattle.std.proofs.Common.{◌≡◌, ℕ, ◌<◌, ◌≤◌}
use Rattle.least_slacks.specs.Items.{item_at}
use Rattle.least_slacks.proofs.later_orders.run_end.Given as goal

abbrev pub invariant-loop-t : goal.invariant-loop-t
invariant-loop-t l =
    (s : ℕ) → l.at ≤ s → s < l.t → (item_at l.items s).colour ≡ (item_at l.items l.at).colour
