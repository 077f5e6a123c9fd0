use Rattle.std.proofs.Common.{◌≡◌, length}
use Rattle.mill_model.specs.Starts.{first_fit}
use Rattle.order_symmetry.specs.Ranked.{orders_of}
use Rattle.greedy_start.proofs.open_path.OpenPath.first_fit.Given as goal

abbrev pub invariant-loop-rank : goal.invariant-loop-rank
invariant-loop-rank l = record {
  ranked : l.path.ranked.now ≡ l.ranked;
  numbers : l.path.numbers.items ≡ first_fit l.ranked.mill (orders_of l.ranked) l.rank;
  long : length l.path.numbers.items ≡ l.rank;
}
