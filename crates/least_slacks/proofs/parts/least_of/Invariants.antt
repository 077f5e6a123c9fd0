use Rattle.std.proofs.Common.{ℕ, ◌<◌, ◌≤◌, get_or}
use Rattle.least_slacks.specs.Keys.{no_key}
use Rattle.least_slacks.proofs.parts.least_of.Given as goal

abbrev pub invariant-loop-i : goal.invariant-loop-i
invariant-loop-i l = record {
  few : l.least.0 ≤ l.limits.most;
  light : l.least.1 ≤ l.limits.largest;
  least :
      (j : ℕ) → j < l.i → (get_or l.keys j no_key).colours < l.limits.most →
      (l.least.0 ≤ (get_or l.keys j no_key).colours)
      × (l.least.1 ≤ (get_or l.keys j no_key).load);
}
