use Rattle.std.proofs.Common.{ℕ, ◌-◌, ◌<◌, ◌≤◌, length}
use Rattle.colour_tables.specs.Stretches.{coloured_at, AreStretches}
use Rattle.colour_tables.proofs.by_colour.stretches.Given as goal

abbrev pub invariant-loop-at : goal.invariant-loop-at
invariant-loop-at l = record {
  inside : l.at ≤ length l.sorted;
  border :
      l.at < length l.sorted → (s : ℕ) → s < l.at →
      (coloured_at l.sorted s).colour < (coloured_at l.sorted l.at).colour;
  done : AreStretches l.sorted l.at l.ends.items;
}

abbrev pub decreases-loop-at : goal.decreases-loop-at
decreases-loop-at l = length l.sorted - l.at
