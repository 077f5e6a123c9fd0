use Rattle.std.proofs.Common.{All, map, vec_len}
use mathlib.Core.List.{IsPrefix}
use Rattle.shared_trials.specs.Trials.{IsUnlent}
use Rattle.shared_trials.proofs.ends.deal.Given as goal

-- from the last deque to the first
abbrev pub invariant-loop-own : goal.invariant-loop-own
invariant-loop-own g l = record {
  which : IsPrefix (map (λ own. own.deque) l.owns.items) g.J.Numbering.deques;
  unlent : All (IsUnlent g.J.Numbering.ranked) l.owns.items;
}

abbrev pub decreases-loop-own : goal.decreases-loop-own
decreases-loop-own g l = vec_len l.owns
