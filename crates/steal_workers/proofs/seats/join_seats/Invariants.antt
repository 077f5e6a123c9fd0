use Rattle.std.proofs.Common.{◌≡◌, ◌++◌, List, All, length}
use Rattle.steal_workers.specs.Seats.{AreJoined, AreSeatsOf}
use Rattle.steal_workers.specs.declared.seats.Seats.{Seats}
use Rattle.steal_workers.proofs.seats.join_seats.Given as goal

-- the seats that are left, and those that are put together
abbrev pub invariant-loop-other : goal.invariant-loop-other
invariant-loop-other l = record {
  taken : List Seats;
  all : l.fn.seats.items ≡ l.seats.items ++ taken;
  each : All (AreSeatsOf l.best l.meter) l.seats.items;
  joined : AreJoined l.best l.meter taken l.whole;
}

abbrev pub decreases-loop-other : goal.decreases-loop-other
decreases-loop-other l = length l.seats.items
