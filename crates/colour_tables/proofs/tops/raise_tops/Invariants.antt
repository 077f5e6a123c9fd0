use Rattle.std.proofs.Common.{ℕ, ◌<◌, ◌≤◌, ◌≡◌}
use Rattle.colour_tables.specs.Entries.{entry}
use Rattle.colour_tables.specs.Threes.{insert, column}
use Rattle.colour_tables.proofs.tops.raise_tops.Given as goal

abbrev pub invariant-loop-l : goal.invariant-loop-l
invariant-loop-l l = record {
  done :
      (k : ℕ) → 0 < k → k < l.l → column l.best l.second l.third k ≡
      insert (entry l.row k) (column l.initial.best l.initial.second l.initial.third k);
  old :
      (k : ℕ) → l.l ≤ k → column l.best l.second l.third k ≡
      column l.initial.best l.initial.second l.initial.third k;
  first : entry l.best 0 ≡ entry l.initial.best 0;
}
