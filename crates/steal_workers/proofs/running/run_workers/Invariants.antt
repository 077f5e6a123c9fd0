use Rattle.std.proofs.Common.{◌≤◌}
use Rattle.search_step.specs.Promise.{EachSplitsAnew, IsThrifty, records_of}
use Rattle.search_step.specs.Resumable.{IsResumable}
use Rattle.steal_workers.proofs.running.run_workers.Given as goal

abbrev pub invariant-loop : goal.invariant-loop
invariant-loop g l = record {
  runs : (goal.iterator-loop g).can_next l.iterator' × (goal.iterator-loop g).is_finite l.iterator';
  resumable : IsResumable l.ranked l.charges l.limits.nodes l.run;
  at_most : l.run.loss ≤ l.fn.start.loss;
  thrifty : IsThrifty l.ranked l.charges l.fn.start.loss l.run;
  anew : EachSplitsAnew l.ranked l.charges (records_of l.run);
}
