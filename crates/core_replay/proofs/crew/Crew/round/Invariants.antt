use Rattle.core_replay.proofs.Loops.{Rounded}
use Rattle.core_replay.proofs.crew.Crew.round.Given as goal

abbrev pub invariant-loop-number : goal.invariant-loop-number
invariant-loop-number l = Rounded l.initial.self l.self l.stopped l.number
