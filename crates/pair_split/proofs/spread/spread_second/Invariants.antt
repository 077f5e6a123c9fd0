use Rattle.std.proofs.Common.{◌≡◌, ◌<◌, length}
use Rattle.pair_split.specs.Tables.{Spreads, mill_in}
use Rattle.pair_split.proofs.spread.spread_second.Given as goal

abbrev pub invariant-loop-second : goal.invariant-loop-second
invariant-loop-second l = record {
  spreads : Spreads (mill_in l.layout) l.layout.words l.weight l.same l.old l.fn.new l.new
      (λ s. (s.first ≡ l.first) × (s.second < l.second));
  size : length l.new ≡ length l.fn.new;
}
