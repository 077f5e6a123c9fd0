use Rattle.std.proofs.Common.{◌≡◌, ◌≤◌, ◌<◌, ◌-◌, ℕ, [], get_or, length, true}
use Rattle.mill_model.specs.Log.{recorded}
use Rattle.refute_log.specs.Rising.{comes_before}
use Rattle.log_checker.proofs.dominated.is_settled.Given as goal

abbrev pub invariant-loop-low : goal.invariant-loop-low
invariant-loop-low l = record {
  order : l.low ≤ l.high;
  within : l.high ≤ length l.log;
  before : (i : ℕ) → i < l.low → comes_before (get_or (recorded l.log) i []) l.path ≡ true;
  after : (i : ℕ) → l.high ≤ i → i < length l.log → comes_before l.path
      (get_or (recorded l.log) i []) ≡ true;
}

abbrev pub decreases-loop-low : goal.decreases-loop-low
decreases-loop-low l = l.high - l.low
