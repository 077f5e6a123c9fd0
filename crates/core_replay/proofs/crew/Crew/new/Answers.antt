use Rattle.std.proofs.Common.{arith}
use Rattle.core_replay.proofs.CrewEnds.{new-crew-is, one-more-worker}
use Rattle.core_replay.proofs.crew.Crew.new.Goals as goal

pub loop-number-preserved : goal.loop-number-preserved
loop-number-preserved c =
    one-more-worker c.args.ranked.now c.args.charges.now c.args.limits.now.workers c.args.loss
    c.loop-number.number c.loop-number.workers.items c.push.new.self.items
    c.new-in-loop-number.result c.loop-number.invariant (record {
      orders = c.new-in-loop-number.ensures.ranked;
      table = c.new-in-loop-number.ensures.charges;
      among = c.new-in-loop-number.ensures.workers;
      who = c.new-in-loop-number.ensures.number;
    }) c.new-in-loop-number.ensures.parts c.in_ok-push.ensures.items

pub returns : goal.returns
returns c =
    new-crew-is c.args.ranked.now c.args.charges.now c.args.limits.now.nodes
    c.args.limits.now.workers c.args.loss c.args.drawn c.loop-number.number c.in_ok-hand.hand
    c.loop-number.workers.items c.in_ok-hand.ensures c.loop-number.invariant
    (omega (arith, c.loop-number-test.false, c.loop-number.auto.number-end))
