use Rattle.std.proofs.Common.{ℕ, ◌+◌, ◌-◌, ◌*◌, ◌<◌, ◌≤◌, List, length}
use Rattle.set_minima.specs.Cells.{cell, AreNear}
use Rattle.least_slacks.specs.Items.{item_at}
use Rattle.least_slacks.specs.Later.{joined_to, others_of, HaveSame, IsTableOf}
use Rattle.mill_model.specs.declared.prices.TheConstants.{MAX_PRICE}
use Rattle.least_slacks.proofs.best_prices.add_left_out.Given as goal

abbrev pub invariant-loop-at : goal.invariant-loop-at
invariant-loop-at l = record {
  inside : l.at ≤ length l.later.items.now;
  border :
      l.at < length l.later.items.now → (s : ℕ) → s < l.at →
      (item_at l.later.items.now s).colour < (item_at l.later.items.now l.at).colour;
  best :
      (own : List ℕ) (k : ℕ) → HaveSame l.later own l.out →
      IsTableOf l.later (others_of l.later l.out) own k
      (length l.initial.table) (cell l.initial.table) →
      IsTableOf l.later (joined_to l.later l.out l.at) own k
      (length l.initial.table) (cell l.table);
  near : AreNear (200000000000000000 + l.at * MAX_PRICE) l.table;
}

abbrev pub decreases-loop-at : goal.decreases-loop-at
decreases-loop-at l = length l.later.items.now - l.at
