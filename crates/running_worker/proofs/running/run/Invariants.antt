use Rattle.std.proofs.Common.{◌≡◌}
use Rattle.running_worker.specs.AtWork.{MayGoOn, StaysAtWork}
use Rattle.running_worker.proofs.running.run.Given as goal

abbrev pub invariant-loop : goal.invariant-loop
invariant-loop g l = record {
  goes : (goal.iterator-loop g).can_next l.iterator' × (goal.iterator-loop g).is_finite l.iterator';
  may : MayGoOn l.worker l.hand;
  work : StaysAtWork l.initial.worker l.initial.hand l.worker l.hand;
  orders : l.worker.ranked ≡ l.initial.worker.ranked;
  charges : l.worker.charges ≡ l.initial.worker.charges;
}
