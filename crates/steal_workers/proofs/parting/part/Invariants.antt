use Rattle.std.proofs.Common.{◌≡◌, ◌++◌, map}
use Rattle.steal_workers.specs.Deques.{thieves_in}
use Rattle.steal_workers.specs.Rounds.{end_owners, end_seats, end_thieves, work_left}
use Rattle.steal_workers.proofs.parting.part.Given as goal

abbrev pub invariant-loop-end : goal.invariant-loop-end
invariant-loop-end l = record {
  owns : l.owns.items ++ end_owners l.end-iterator.rest.items ≡ end_owners l.fn.ends.items;
  all_thieves : thieves_in l.all_thieves.items ++ end_thieves l.end-iterator.rest.items
      ≡ end_thieves l.fn.ends.items;
  seats : l.seats.items ++ map end_seats l.end-iterator.rest.items
      ≡ map end_seats l.fn.ends.items;
  left : l.left.items ++ work_left l.end-iterator.rest.items ≡ work_left l.fn.ends.items;
}
