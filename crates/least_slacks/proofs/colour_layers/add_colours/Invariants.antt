use Rattle.std.proofs.Common.{ℕ, ◌+◌, ◌-◌, ◌*◌, ◌<◌, ◌≤◌, length}
use Rattle.set_minima.specs.Cells.{AreNear}
use Rattle.least_slacks.specs.Items.{item_at}
use Rattle.least_slacks.specs.Later.{let_to, others_of, AreLayersOf, AreReachesOf}
use Rattle.least_slacks.specs.Parts.{letting_of}
use Rattle.mill_model.specs.declared.prices.TheConstants.{MAX_PRICE}
use Rattle.least_slacks.proofs.colour_layers.add_colours.Given as goal

abbrev pub invariant-loop-at : goal.invariant-loop-at
invariant-loop-at l = record {
  inside : l.at ≤ length l.later.items.now;
  border :
      l.at < length l.later.items.now → (s : ℕ) → s < l.at →
      (item_at l.later.items.now s).colour < (item_at l.later.items.now l.at).colour;
  reached :
      AreReachesOf l.later (others_of l.later (letting_of l.later.rest.now l.part).before) l.layers
      (length l.initial.table) l.initial.reach →
      AreReachesOf l.later (let_to l.later (letting_of l.later.rest.now l.part) l.at) l.layers
      (length l.initial.table) l.reach;
  best :
      AreReachesOf l.later (others_of l.later (letting_of l.later.rest.now l.part).before) l.layers
      (length l.initial.table) l.initial.reach →
      AreLayersOf l.later (others_of l.later (letting_of l.later.rest.now l.part).before) l.layers
      (length l.initial.table) l.initial.tables →
      AreLayersOf l.later (let_to l.later (letting_of l.later.rest.now l.part) l.at) l.layers
      (length l.initial.table) l.tables;
  near :
      (n : ℕ) → AreNear n l.initial.tables → AreNear (n + l.at * (9 * MAX_PRICE)) l.tables;
}

abbrev pub decreases-loop-at : goal.decreases-loop-at
decreases-loop-at l = length l.later.items.now - l.at
