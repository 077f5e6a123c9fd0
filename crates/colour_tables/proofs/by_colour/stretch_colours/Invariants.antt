use Rattle.std.proofs.Common.{ℕ, ◌<◌, ◌≤◌, ◌≡◌, length, get_or}
use Rattle.colour_tables.specs.Stretches.{coloured_at, stretch_at}
use Rattle.colour_tables.proofs.by_colour.stretch_colours.Given as goal

abbrev pub invariant-loop-c : goal.invariant-loop-c
invariant-loop-c l = record {
  count : length l.colours.items ≡ l.c;
  inside : l.c ≤ length l.ends;
  each :
      (c : ℕ) → c < l.c →
      get_or l.colours.items c 0 ≡ (coloured_at l.sorted (stretch_at l.ends c).0).colour;
}
