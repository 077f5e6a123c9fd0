use Rattle.std.proofs.Common.{ℕ, ◌-◌, ◌*◌, ◌<◌, ◌≤◌, length}
use Rattle.set_minima.specs.Cells.{AreNear}
use Rattle.knap_bound.specs.Items.{item_at, no_place}
use Rattle.knap_bound.specs.Packing.{let_to, AreLayersOf}
use Rattle.mill_model.specs.Limits.{all_prices}
use Rattle.knap_bound.proofs.colour_layers.add_colours.Given as goal

abbrev pub invariant-loop-at : goal.invariant-loop-at
invariant-loop-at l = record {
  inside : l.at ≤ length l.packing.items.now;
  border :
      l.at < length l.packing.items.now → (s : ℕ) → s < l.at →
      (item_at l.packing.items.now s).colour < (item_at l.packing.items.now l.at).colour;
  best :
      AreLayersOf l.packing no_place l.layers
      (length l.initial.table) l.initial.tables →
      AreLayersOf l.packing (let_to l.packing l.out l.at) l.layers
      (length l.initial.table) l.tables;
  near : AreNear (l.at * (9 * all_prices)) l.tables;
}

abbrev pub decreases-loop-at : goal.decreases-loop-at
decreases-loop-at l = length l.packing.items.now - l.at
