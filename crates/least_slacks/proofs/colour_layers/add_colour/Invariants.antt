use Rattle.std.proofs.Common.{◌≡◌, ℕ, [], ◌+◌, ◌-◌, ◌*◌, ◌<◌, ◌≤◌, length, pos}
use Rattle.std.proofs.Common.{slice_index_or}
use Rattle.set_minima.specs.Cells.{cell, AreNear}
use Rattle.least_slacks.specs.Items.{Letting}
use Rattle.least_slacks.specs.Later.{let_to, IsRunOf, IsTableOf, AreLayersOf, AreReachesOf}
use Rattle.set_minima.specs.Reaches.{IsReach}
use Rattle.mill_model.specs.declared.prices.TheConstants.{MAX_PRICE}
use Rattle.least_slacks.proofs.colour_layers.add_colour.Given as goal

abbrev pub invariant-loop-t : goal.invariant-loop-t
invariant-loop-t l = record {
  done :
      (letting : Letting) (colour : ℕ) →
      IsRunOf l.later letting l.run.0 l.run.1 colour →
      AreReachesOf l.later (let_to l.later letting l.run.0) l.layers
      (length l.initial.table) l.initial.reach →
      AreLayersOf l.later (let_to l.later letting l.run.0) l.layers
      (length l.initial.table) l.initial.tables →
      (s : ℕ) → l.t ≤ s → s < l.layers →
      IsTableOf l.later (let_to l.later letting l.run.1) [] s
      (length l.initial.table) (λ i. cell l.tables (s * length l.initial.table + i));
  old :
      (i : ℕ) → i < l.t * length l.initial.table →
      slice_index_or l.tables i (pos 0) ≡ slice_index_or l.initial.tables i (pos 0);
  reached :
      (letting : Letting) (colour : ℕ) →
      IsRunOf l.later letting l.run.0 l.run.1 colour →
      AreReachesOf l.later (let_to l.later letting l.run.0) l.layers
      (length l.initial.table) l.initial.reach →
      (s : ℕ) → l.t ≤ s → s < l.layers →
      IsReach (let_to l.later letting l.run.1) [] s l.later.rest.now (length l.initial.table)
      (slice_index_or l.reach s 0);
  unreached :
      (s : ℕ) → s < l.t → slice_index_or l.reach s 0 ≡ slice_index_or l.initial.reach s 0;
  long : length l.reach ≡ 9;
  near :
      (n : ℕ) → AreNear n l.initial.tables →
      AreNear (n + (l.layers - l.t) * ((l.run.1 - l.run.0) * MAX_PRICE)) l.tables;
}
