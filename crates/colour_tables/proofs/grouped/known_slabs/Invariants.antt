use Rattle.std.proofs.Common.{◌≤◌, ◌≡◌, length}
use Rattle.colour_tables.specs.Grouped.{AreKnown}
use Rattle.colour_tables.proofs.grouped.known_slabs.Given as goal

abbrev pub invariant-loop-g : goal.invariant-loop-g
invariant-loop-g l = record {
  count : length l.slabs.items ≡ l.g;
  inside : l.g ≤ length l.groups;
  known : AreKnown l.tables l.groups l.slabs.items;
}
