use Rattle.mill_model.specs.Charges.{charge_of}
use Rattle.order_symmetry.specs.Ranked.{orders_of}
use Rattle.greedy_start.specs.Choice.{IsBestFrom}
use Rattle.greedy_start.proofs.open_path.OpenPath.best_group.Given as goal

abbrev pub invariant-loop-group : goal.invariant-loop-group
invariant-loop-group l =
    IsBestFrom l.self.ranked.now.mill (charge_of l.charges)
    (orders_of l.self.ranked.now) l.self.numbers.items l.group l.best
