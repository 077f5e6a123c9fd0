use Rattle.std.proofs.Common.{◌≡◌, ℕ, drop, take, ltb, slice_index}
use Rattle.mill_model.specs.LiveKey.{has_colour}
use Rattle.log_checker.proofs.from_instance.fill_last.Given as goal

abbrev pub invariant-loop-rank : goal.invariant-loop-rank
invariant-loop-rank l =
    (colour k : ℕ) →
    has_colour (drop k (take l.rank l.ranked)) colour ≡ ltb k (slice_index l.last colour)
