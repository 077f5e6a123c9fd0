use Rattle.std.proofs.Common.{arith, ap, length}
use Rattle.core_replay.specs.Crew.{CrewState}
use Rattle.core_replay.proofs.Loops.{and-moved, and-stopped, one-of-three, rounded-more}
use Rattle.core_replay.proofs.Loops.{stopped-goes}
use Rattle.core_replay.proofs.crew.Crew.round.Goals as goal
use Rattle.core_replay.proofs.crew.Crew.round.Goals.{in-Moved, in-Stopped}

pub loop-number-preserved : goal.loop-number-preserved
loop-number-preserved c =
    rounded-more c.args.self.now c.loop-number.self c.turn.new.self c.loop-number.stopped
    c.match-turn.stopped c.loop-number.number c.turn.result c.loop-number.invariant
    (omega (
      arith,
      c.loop-number-test.true,
      c.loop-number.invariant.workers,
      c.workers-number-end.ensures.full,
      c.requires.ready.steady.full,
      ap (λ (s : CrewState). length s.core.shared.deques) c.self.view_is,
    ))
    (elim c.match-turn.branch [
      | in-Moved w ↦ (one-of-three c.turn.result w.in-Moved.is).0
      | in-Stopped w ↦ (stopped-goes c.turn.result w.in-Stopped.is).0
    ])
    c.turn.ensures.event c.turn.ensures.same
    (elim c.match-turn.branch [
      | in-Moved w ↦ and-moved _ _ _ w.stopped-is (one-of-three c.turn.result w.in-Moved.is).1
      | in-Stopped w ↦
          and-stopped _ _ _ w.stopped-is (stopped-goes c.turn.result w.in-Stopped.is).1
    ])
