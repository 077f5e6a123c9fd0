use Rattle.std.proofs.Common.{◌≡◌, ℕ, ◌<◌, ◌≤◌, length, get_or}
use Rattle.pair_split.proofs.ShiftedBits.{IsShifted}
use Rattle.pair_split.proofs.words.shift_or.Given as goal

abbrev pub invariant-loop-k : goal.invariant-loop-k
invariant-loop-k l = record {
  done : (j : ℕ) → j < l.k → IsShifted l.fn.to l.from l.weight j (get_or l.to j 0);
  rest : (j : ℕ) → l.k ≤ j → get_or l.to j 0 ≡ get_or l.fn.to j 0;
  size : length l.to ≡ length l.fn.to;
}
