use Rattle.std.proofs.Common.{◌≡◌, ◌-◌, ◌++◌, length}
use Rattle.steal_deques.proofs.gathered.gather.Given as goal

-- what was popped by now is what is left so far
abbrev pub invariant-loop-path : goal.invariant-loop-path
invariant-loop-path l =
    l.own ≡ record l.fn.own { popped = l.fn.own.popped ++ l.left.items }

abbrev pub decreases-loop-path : goal.decreases-loop-path
decreases-loop-path l = length l.own.pushed - length l.own.popped
