use Rattle.std.proofs.Common.{◌≡◌, ◌≤◌}
use Rattle.list_laws.specs.Sets.{below}
use Rattle.colour_tables.proofs.tables_made.numbers.Given as goal

abbrev pub invariant-loop-c : goal.invariant-loop-c
invariant-loop-c l = record {
  is : l.numbers.items ≡ below l.c;
  inside : l.c ≤ l.count;
}
