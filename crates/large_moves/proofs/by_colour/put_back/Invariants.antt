use Rattle.std.proofs.Common.{◌≡◌, ◌<◌, ℕ, length, get_or}
use Rattle.large_moves.specs.Coloured.{homes_of}
use Rattle.large_moves.proofs.by_colour.put_back.Given as goal

abbrev pub invariant-loop-i : goal.invariant-loop-i
invariant-loop-i l = record {
  count : length l.slabs.items ≡ length l.coloured;
  back : (k : ℕ) → k < l.i →
      get_or l.slabs.items (get_or (homes_of l.coloured) k 0) 0 ≡ get_or l.plan k 0;
}
