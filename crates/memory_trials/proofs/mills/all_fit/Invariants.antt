use Rattle.split_tree.proofs.LightOrders.{AreLightBelow}
use Rattle.memory_trials.proofs.mills.all_fit.Given as goal

abbrev pub invariant-loop-rank : goal.invariant-loop-rank
invariant-loop-rank l = AreLightBelow l.ranked l.rank
