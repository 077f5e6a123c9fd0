use Rattle.std.proofs.Common.{ℕ, ◌<◌, ◌≤◌, ◌≡◌, length, get_or, pos}
use Rattle.set_minima.specs.Packs.{nobody}
use Rattle.colour_tables.specs.Items.{item_at}
use Rattle.colour_tables.specs.Stretches.{coloured_at}
use Rattle.colour_tables.proofs.by_colour.priced_items.Given as goal

abbrev pub invariant-loop-t : goal.invariant-loop-t
invariant-loop-t l = record {
  count : length l.items.items ≡ l.t;
  inside : l.t ≤ length l.sorted;
  place : (t : ℕ) → t < l.t → (item_at l.items.items t).place ≡ (coloured_at l.sorted t).place;
  weighs :
      (t : ℕ) → t < l.t →
      (item_at l.items.items t).weight ≡ (get_or l.rest (coloured_at l.sorted t).place
      nobody).weight;
  priced :
      (t : ℕ) → t < l.t →
      (item_at l.items.items t).price ≡ get_or l.prices (coloured_at l.sorted t).place (pos 0);
}
