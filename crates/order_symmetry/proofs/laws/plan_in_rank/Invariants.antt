use Rattle.std.proofs.Common.{◌≡◌, take}
use Rattle.order_symmetry.specs.Ranked.{read_in_rank}
use Rattle.order_symmetry.proofs.laws.plan_in_rank.Given as goal

abbrev pub invariant-loop-rank : goal.invariant-loop-rank
invariant-loop-rank l = l.read.items ≡ take l.rank (read_in_rank l.ranked l.plan)
