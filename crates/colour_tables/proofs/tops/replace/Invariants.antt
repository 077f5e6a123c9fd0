use Rattle.std.proofs.Common.{ℕ, ◌<◌, ◌≤◌, ◌≡◌, ◌⊎◌, ◌+◌, ◌*◌, length}
use Rattle.colour_tables.specs.Entries.{entry}
use Rattle.colour_tables.specs.Threes.{AreTops}
use Rattle.colour_tables.proofs.tops.replace.Given as goal

abbrev pub invariant-loop-load : goal.invariant-loop-load
invariant-loop-load l = record {
  row :
      (k : ℕ) → k < l.load → entry l.rows (l.c * length l.new + k) ≡ entry l.new k;
  other : (i : ℕ) → i < l.c * length l.new ⊎ l.c * length l.new + l.load ≤ i →
      entry l.rows i ≡ entry l.fn.rows i;
  tops : AreTops (length l.new) l.present l.rows l.best l.second l.third;
  first : entry l.best 0 ≡ entry l.fn.best 0;
}
