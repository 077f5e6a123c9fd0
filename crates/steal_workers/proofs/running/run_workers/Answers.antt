use Rattle.std.proofs.Common.{arith}
use Rattle.steal_workers.proofs.GoesOn.{anew-too}
use Rattle.steal_workers.proofs.running.run_workers.Goals as goal

pub loop-preserved : goal.loop-preserved
loop-preserved g c = record {
  runs = (tt, tt);
  resumable = c.in_ok-run.ensures.resumable;
  at_most = omega (arith, c.in_ok-run.ensures.at_most, c.loop.invariant.at_most);
  thrifty = c.in_ok-run.ensures.goes_on.thrifty c.args.start.loss c.loop.invariant.at_most
      c.loop.invariant.thrifty;
  anew = anew-too c.args.ranked.now c.args.charges.now c.loop.run c.in_ok-run.run'
      c.in_ok-run.ensures.goes_on c.loop.invariant.anew;
}
