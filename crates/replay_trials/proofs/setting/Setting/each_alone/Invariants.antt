use Rattle.std.proofs.Common.{◌≡◌, true}
use Rattle.mill_model.specs.Tree.{in_tree}
use Rattle.order_symmetry.specs.Ranked.{orders_of}
use Rattle.replay_trials.proofs.setting.Setting.each_alone.Given as goal

abbrev pub invariant-loop : goal.invariant-loop
invariant-loop l = in_tree l.self.ranked.mill (orders_of l.self.ranked) l.path ≡ true
