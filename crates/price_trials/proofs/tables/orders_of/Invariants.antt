use Rattle.std.proofs.Common.{ℕ, ◌<◌, ◌≤◌, ◌≡◌, get_or, length}
use Rattle.set_minima.specs.Packs.{nobody}
use Rattle.price_trials.proofs.tables.orders_of.Given as goal

abbrev pub invariant-loop-i : goal.invariant-loop-i
invariant-loop-i l = record {
  count : length l.orders.items ≡ l.i;
  inside : l.i ≤ length l.list;
  weigh : (j : ℕ) → j < length l.orders.items → 0 < (get_or l.orders.items j nobody).weight;
}
