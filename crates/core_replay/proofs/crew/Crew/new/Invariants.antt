use Rattle.core_replay.proofs.CrewEnds.{AreNew}
use Rattle.core_replay.proofs.crew.Crew.new.Given as goal

abbrev pub invariant-loop-number : goal.invariant-loop-number
invariant-loop-number l = AreNew l.ranked l.charges l.count l.loss l.number l.workers.items
