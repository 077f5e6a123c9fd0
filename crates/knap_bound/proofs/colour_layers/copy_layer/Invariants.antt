use Rattle.std.proofs.Common.{◌≡◌, ℕ, ◌+◌, ◌<◌, pos, slice_index_or}
use Rattle.knap_bound.proofs.colour_layers.copy_layer.Given as goal

abbrev pub invariant-loop-l : goal.invariant-loop-l
invariant-loop-l l =
    (k : ℕ) → k < l.l →
    slice_index_or l.table k (pos 0) ≡ slice_index_or l.tables (l.at + k) (pos 0)
