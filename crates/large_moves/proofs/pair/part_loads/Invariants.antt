use Rattle.std.proofs.Common.{◌≡◌, ◌≤◌, ◌*◌, ◌^◌, take}
use Rattle.list_laws.specs.Sets.{chosen}
use Rattle.mill_model.specs.Pairs.{complement}
use Rattle.mill_model.specs.Slab.{load}
use Rattle.large_moves.proofs.pair.part_loads.Given as goal

abbrev pub invariant-loop-i : goal.invariant-loop-i
invariant-loop-i l = record {
  marked : l.first ≡ load (chosen (take l.i l.marks) (take l.i l.items));
  others : l.second ≡ load (chosen (complement (take l.i l.marks)) (take l.i l.items));
  first_small : l.first ≤ l.i * 2 ^ 32;
  second_small : l.second ≤ l.i * 2 ^ 32;
}
