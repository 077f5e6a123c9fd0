use Rattle.std.proofs.Common.{◌≡◌, ◌*◌, ◌<◌, ◌≤◌, length}
use Rattle.pair_split.specs.Loads.{Gathers}
use Rattle.pair_split.proofs.loads.gather_second.Given as goal

abbrev pub invariant-loop-r : goal.invariant-loop-r
invariant-loop-r l = record {
  gathers : Gathers l.layout.words l.table l.fn.loads l.loads
      (λ q. (l.first * 36 ≤ q) × (q < l.r));
  size : length l.loads ≡ l.layout.words;
  from : l.first * 36 ≤ l.r;
}
