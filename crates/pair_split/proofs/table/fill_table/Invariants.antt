use Rattle.std.proofs.Common.{◌≡◌, ◌*◌, ◌+◌, ◌-◌, drop, length}
use Rattle.pair_split.specs.Tables.{IsTable, mill_in}
use Rattle.pair_split.proofs.table.fill_table.Given as goal

abbrev pub invariant-loop-k : goal.invariant-loop-k
invariant-loop-k l = record {
  table : IsTable (mill_in l.layout) l.layout.words (drop (l.top - 2 * l.k) l.orders) l.table;
  size : length l.table ≡ 36 * (l.layout.p + 1) * l.layout.words;
  spare : length l.spare ≡ 36 * (l.layout.p + 1) * l.layout.words;
}
