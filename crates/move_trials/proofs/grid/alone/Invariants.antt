use Rattle.std.proofs.Common.{◌≡◌, length, ltb, true}
use Rattle.std.specs.List.{list_all}
use Rattle.move_trials.proofs.grid.alone.Given as goal

abbrev pub invariant-loop-s : goal.invariant-loop-s
invariant-loop-s l = record {
  count : length l.slabs.items ≡ l.s;
  below : list_all (λ s. ltb s l.count) l.slabs.items ≡ true;
}
