use Rattle.std.proofs.Common.{All}
use Rattle.shared_trials.specs.Trials.{IsUnlent}
use Rattle.shared_trials.proofs.ends.deques.Given as goal

abbrev pub invariant-loop-number : goal.invariant-loop-number
invariant-loop-number l = All (IsUnlent l.ranked) l.owns.items
