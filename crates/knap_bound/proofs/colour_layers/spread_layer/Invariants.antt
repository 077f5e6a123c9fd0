use Rattle.std.proofs.Common.{◌≡◌, ℕ, ◌+◌, ◌*◌, ◌<◌, length, pos, slice_index_or}
use Rattle.set_minima.specs.Cells.{IsNear, AreNear}
use Rattle.knap_bound.proofs.colour_layers.spread_layer.Given as goal

abbrev pub invariant-loop-t : goal.invariant-loop-t
invariant-loop-t l = record {
  is :
      (s : ℕ) → s < l.t → (i : ℕ) → i < length l.table →
      slice_index_or l.tables (s * length l.table + i) (pos 0) ≡ slice_index_or l.table i (pos 0);
  near :
      (n : ℕ) → AreNear n l.table → (i : ℕ) → i < l.t * length l.table →
      IsNear n (slice_index_or l.tables i (pos 0));
}
