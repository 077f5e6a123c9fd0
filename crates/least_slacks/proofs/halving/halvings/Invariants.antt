use Rattle.std.proofs.Common.{ℕ, ◌<◌, ◌^◌}
use Rattle.least_slacks.proofs.halving.halvings.Given as goal

abbrev pub invariant-loop-levels : goal.invariant-loop-levels
invariant-loop-levels l = (fewer : ℕ) → fewer < l.levels → 2 ^ fewer < l.count
