use Rattle.std.proofs.Common.{◌≡◌, ◌≤◌, ◌<◌, ◌++◌, ◌∷◌, [], ℕ, List, length, Some, false}
use Rattle.std.specs.List.{slice_get}
use Rattle.mill_model.specs.Slab.{legal}
use Rattle.mill_model.specs.declared.order.Order.{Order}
use Rattle.order_symmetry.specs.Ranked.{orders_of}
use Rattle.slab_rules.specs.OpenSlab.{Carries}
use Rattle.split_tree.proofs.node.NodeState.is_live.Given as goal

abbrev pub invariant-loop-rank : goal.invariant-loop-rank
invariant-loop-rank l = record {
  low : length l.self.path ≤ l.rank;
  none : (orders : List Order) → Carries l.slab orders → (r : ℕ) (order : Order) →
      length l.self.path ≤ r → r < l.rank → slice_get (orders_of l.self.ranked) r ≡ Some order →
      legal l.self.ranked.mill (orders ++ order ∷ []) ≡ false;
}
