use Rattle.std.proofs.Common.{◌≡◌, ◌++◌, drop, map}
use Rattle.mill_model.specs.declared.order.Order.{Order}
use Rattle.order_symmetry.specs.Ranked.{orders_of}
use Rattle.split_tree.specs.Keys.{rest_of}
use Rattle.split_tree.proofs.node.NodeState.coming_colours.Given as goal

abbrev pub invariant-loop-rank : goal.invariant-loop-rank
invariant-loop-rank l = l.colours.items ++ map (λ (order : Order). order.colour)
    (drop l.rank (orders_of l.self.ranked)) ≡ map (λ (order : Order). order.colour) (rest_of l.self)
