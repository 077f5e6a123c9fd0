use Rattle.std.proofs.Common.{◌≡◌, ℕ, ◌+◌, ◌<◌, ◌≤◌, ◌⊎◌, pos, slice_index_or}
use Rattle.knap_bound.proofs.colour_layers.put_layer.Given as goal

abbrev pub invariant-loop-l : goal.invariant-loop-l
invariant-loop-l l = record {
  here :
      (k : ℕ) → k < l.l →
      slice_index_or l.tables (l.at + k) (pos 0) ≡ slice_index_or l.table k (pos 0);
  other :
      (i : ℕ) → i < l.at ⊎ l.at + l.l ≤ i →
      slice_index_or l.tables i (pos 0) ≡ slice_index_or l.initial.tables i (pos 0);
}
