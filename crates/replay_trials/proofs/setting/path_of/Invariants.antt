use Rattle.std.proofs.Common.{◌≡◌, true}
use Rattle.mill_model.specs.Tree.{in_tree}
use Rattle.order_symmetry.specs.Ranked.{orders_of}
use Rattle.replay_trials.proofs.setting.path_of.Given as goal

abbrev pub invariant-loop-number : goal.invariant-loop-number
invariant-loop-number l = in_tree l.ranked.mill (orders_of l.ranked) l.path ≡ true

abbrev pub invariant-loop-child : goal.invariant-loop-child
invariant-loop-child l = in_tree l.ranked.mill (orders_of l.ranked) l.path ≡ true
