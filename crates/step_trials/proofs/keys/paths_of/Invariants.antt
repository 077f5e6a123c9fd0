use Rattle.std.proofs.Common.{◌≡◌, true}
use Rattle.std.specs.List.{All}
use Rattle.mill_model.specs.Tree.{in_tree}
use Rattle.order_symmetry.specs.Ranked.{orders_of}
use Rattle.step_trials.proofs.keys.paths_of.Given as goal

abbrev pub invariant-loop-next : goal.invariant-loop-next
invariant-loop-next l =
    All (λ path. in_tree l.ranked.mill (orders_of l.ranked) path ≡ true) l.paths.items
