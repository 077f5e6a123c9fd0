use Rattle.std.proofs.Common.{◌≡◌, ℕ, ◌<◌, All, length, pos, slice_index_or}
use Rattle.mill_model.specs.Charges.{charge_of}
use Rattle.mill_model.specs.Prices.{least_slack}
use Rattle.set_minima.specs.Cells.{IsSmall, slack_limit}
use Rattle.split_tree.specs.Node.{group_of}
use Rattle.column_price.specs.Nodes.{rest_of}
use Rattle.column_price.proofs.slacks.LeastSlacks.on_groups.Given as goal

abbrev pub invariant-loop-g : goal.invariant-loop-g
invariant-loop-g l = record {
  kept : l.self ≡ l.fn.self;
  count : length l.slacks.items ≡ l.g;
  each :
      (g : ℕ) → g < length l.slacks.items → slice_index_or l.slacks.items g (pos 0)
      ≡ least_slack l.fn.self.node.ranked.mill (charge_of l.fn.self.charges)
      (group_of l.fn.self.node g) (rest_of l.fn.self.node) l.fn.self.prices;
  small : All (IsSmall slack_limit) l.slacks.items;
}
