use Rattle.std.proofs.Common.{◌≡◌, ℕ, ◌+◌, ◌*◌, ◌<◌, pos, slice_index_or}
use Rattle.set_minima.specs.Cells.{IsNear}
use Rattle.least_slacks.proofs.colour_layers.copy_layers.Given as goal

abbrev pub invariant-loop-t : goal.invariant-loop-t
invariant-loop-t l = record {
  is :
      (s : ℕ) → s < l.t → (i : ℕ) → i < l.width →
      slice_index_or l.tables (s * l.width + i) (pos 0)
      ≡ slice_index_or l.from (s * l.apart + i) (pos 0);
  near :
      (n : ℕ) →
      ((s : ℕ) → s < l.layers → (i : ℕ) → i < l.width →
      IsNear n (slice_index_or l.from (s * l.apart + i) (pos 0))) →
      (i : ℕ) → i < l.t * l.width → IsNear n (slice_index_or l.tables i (pos 0));
}
