use Rattle.std.proofs.Common.{ℕ, ◌<◌, arith, length}
use Rattle.core_machine.proofs.Lists.{all-get}
use Rattle.core_replay.proofs.Loops.{follows-more, one-of-four}
use Rattle.core_replay.proofs.crew.Crew.follow.Goals as goal

pub loop-number-preserved : goal.loop-number-preserved
loop-number-preserved c =
    follows-more c.args.self.now c.loop-number.self c.turn.new.self c.args.schedule.now
    c.loop-number.number-index c.turn.result c.loop-number-test.true c.loop-number.invariant
    (omega (
      arith,
      all-get (λ (number : ℕ). number < length c.args.self.now.core.workers) c.args.schedule.now
          c.loop-number.number-index 0 c.requires.numbers c.loop-number-test.true,
      c.loop-number.invariant.count,
    ))
    (one-of-four c.turn.result c.in-Moved.is) c.turn.ensures.event
    c.turn.ensures.same
