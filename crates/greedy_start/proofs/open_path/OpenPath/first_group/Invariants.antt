use Rattle.std.proofs.Common.{◌≡◌, ◌<◌, ℕ, false}
use Rattle.mill_model.specs.Starts.{stays_legal}
use Rattle.order_symmetry.specs.Ranked.{orders_of}
use Rattle.greedy_start.proofs.open_path.OpenPath.first_group.Given as goal

abbrev pub invariant-loop-group : goal.invariant-loop-group
invariant-loop-group l =
    (g : ℕ) → g < l.group →
    stays_legal l.self.ranked.now.mill (orders_of l.self.ranked.now) l.self.numbers.items g ≡ false
