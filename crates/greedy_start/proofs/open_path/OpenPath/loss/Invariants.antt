use Rattle.std.proofs.Common.{◌≡◌, ◌≤◌, ◌<◌, ◌*◌, slice_index}
use Rattle.split_tree.proofs.Losses.{charged_below}
use Rattle.greedy_start.proofs.open_path.OpenPath.loss.Given as goal

abbrev pub invariant-loop-group : goal.invariant-loop-group
invariant-loop-group l = record {
  sum : l.loss ≡ charged_below l.charges.list (record {
    ranked = l.self.ranked.now;
    path = l.self.numbers.items;
  }) l.group-index;
  free : 0 < l.group-index → slice_index l.charges.list 0 ≡ 0;
  most : l.loss ≤ 100000000 * l.group-index;
}
