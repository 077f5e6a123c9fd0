use Rattle.std.proofs.Common.{◌∙◌}
use Rattle.running_worker.proofs.AtWork.{still-at-work}
use Rattle.running_worker.proofs.running.run.Goals as goal

pub loop-preserved-in-Moved : goal.loop-preserved-in-Moved
loop-preserved-in-Moved g c = record {
  goes = (tt, tt);
  may = c.turn.ensures.may;
  work =
      still-at-work c.args.worker.now c.loop.worker c.turn.new.worker c.args.hand.now c.loop.hand
      c.turn.new.hand c.loop.invariant.work c.turn.ensures.work;
  orders = c.turn.ensures.orders ∙ c.loop.invariant.orders;
  charges = c.turn.ensures.charges ∙ c.loop.invariant.charges;
}

pub loop-preserved : goal.loop-preserved
loop-preserved g c = record {
  goes = (tt, tt);
  may = c.turn.ensures.may;
  work =
      still-at-work c.args.worker.now c.loop.worker c.turn.new.worker c.args.hand.now c.loop.hand
      c.turn.new.hand c.loop.invariant.work c.turn.ensures.work;
  orders = c.turn.ensures.orders ∙ c.loop.invariant.orders;
  charges = c.turn.ensures.charges ∙ c.loop.invariant.charges;
}

pub returns-in-Stopped-clause-work : goal.returns-in-Stopped-clause-work
returns-in-Stopped-clause-work g c =
    still-at-work c.args.worker.now c.loop.worker c.turn.new.worker c.args.hand.now c.loop.hand
    c.turn.new.hand c.loop.invariant.work c.turn.ensures.work
