use Rattle.std.proofs.Common.{◌≡◌, ℕ, ◌<◌, ◌≤◌, All, pos, set, slice_index_or}
use Rattle.mill_model.specs.Charges.{charge_of}
use Rattle.mill_model.specs.Bounds.{least_of, least_on_without, or_zero}
use Rattle.set_minima.specs.Cells.{IsSmall, slack_limit}
use Rattle.split_tree.specs.Node.{group_of}
use Rattle.column_price.specs.Nodes.{rest_of, with_prices}
use Rattle.column_price.specs.Numbers.{swept_numbers}
use Rattle.column_price.proofs.sweep.set_anew.Given as goal

abbrev pub invariant-loop-g : goal.invariant-loop-g
invariant-loop-g l = record {
  kept : l.slacks ≡ with_prices l.fn.slacks (set l.fn.slacks.prices l.i (pos 0));
  best : l.best ≡ least_of (swept_numbers l.fn.slacks.node (charge_of l.fn.slacks.charges)
      (set l.fn.slacks.prices l.i (pos 0)) l.i l.g);
  changed :
      (g : ℕ) → g < l.g → slice_index_or l.groups g (pos 0)
      ≡ or_zero (least_on_without l.fn.slacks.node.ranked.mill (charge_of l.fn.slacks.charges)
      (group_of l.fn.slacks.node g) (rest_of l.fn.slacks.node)
      (set l.fn.slacks.prices l.i (pos 0)) l.i);
  same :
      (g : ℕ) → l.g ≤ g → slice_index_or l.groups g (pos 0) ≡ slice_index_or l.fn.groups g (pos 0);
  small : All (IsSmall slack_limit) l.groups;
}
