use Rattle.std.proofs.Common.{◌≡◌, ◌<◌, length}
use Rattle.pair_split.specs.Tables.{Spreads, mill_in}
use Rattle.pair_split.proofs.spread.spread.Given as goal

abbrev pub invariant-loop-first : goal.invariant-loop-first
invariant-loop-first l = record {
  spreads : Spreads (mill_in l.layout) l.layout.words l.weight l.same l.old l.fn.new l.new
      (λ s. s.first < l.first);
  size : length l.new ≡ length l.fn.new;
}
