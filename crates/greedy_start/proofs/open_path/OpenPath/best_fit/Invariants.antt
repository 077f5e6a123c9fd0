use Rattle.std.proofs.Common.{◌≡◌, length}
use Rattle.mill_model.specs.Charges.{charge_of}
use Rattle.mill_model.specs.Starts.{best_fit}
use Rattle.order_symmetry.specs.Ranked.{orders_of}
use Rattle.greedy_start.proofs.open_path.OpenPath.best_fit.Given as goal

abbrev pub invariant-loop-rank : goal.invariant-loop-rank
invariant-loop-rank l = record {
  ranked : l.path.ranked.now ≡ l.ranked;
  numbers : l.path.numbers.items
      ≡ best_fit l.ranked.mill (charge_of l.charges) (orders_of l.ranked) l.rank;
  long : length l.path.numbers.items ≡ l.rank;
}
