use Rattle.std.proofs.Common.{◌≡◌, ℕ, ◌*◌, ◌+◌, ◌<◌, ◌/◌, ◌%◌, List, length}
use Rattle.pair_split.specs.Loads.{Gathers}
use Rattle.pair_split.specs.Words.{bit}
use Rattle.pair_split.proofs.loads.gather_loads.Given as goal

abbrev pub invariant-loop-first : goal.invariant-loop-first
invariant-loop-first l = record {
  gathers : (none : List ℕ) × ((k : ℕ) → bit none k ≡ 1 → ⊥)
      × Gathers l.layout.words l.table none l.loads
      (λ q. (q / 36 < l.first) × (q % 36 < 4 * (l.layout.p + 1)));
  size : length l.loads ≡ l.layout.words;
}
