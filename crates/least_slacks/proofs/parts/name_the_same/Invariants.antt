use Rattle.std.proofs.Common.{ℕ, ◌≡◌, ◌<◌, get_or}
use Rattle.least_slacks.specs.Keys.{no_key}
use Rattle.least_slacks.proofs.parts.name_the_same.Given as goal

abbrev pub invariant-loop-i : goal.invariant-loop-i
invariant-loop-i l =
    (j : ℕ) → j < l.i → (get_or l.keys j no_key).colours < l.most →
    (get_or l.keys j no_key).coming ≡ l.coming
