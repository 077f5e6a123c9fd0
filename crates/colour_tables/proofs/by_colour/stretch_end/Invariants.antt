use Rattle.std.proofs.Common.{◌≡◌, ℕ, ◌<◌, ◌≤◌}
use Rattle.colour_tables.specs.Stretches.{coloured_at}
use Rattle.colour_tables.proofs.by_colour.stretch_end.Given as goal

abbrev pub invariant-loop-t : goal.invariant-loop-t
invariant-loop-t l =
    (s : ℕ) → l.at ≤ s → s < l.t → (coloured_at l.sorted s).colour ≡ (coloured_at l.sorted
    l.at).colour
