use Rattle.std.proofs.Common.{take}
use Rattle.core_replay.proofs.Loops.{Follows}
use Rattle.core_replay.proofs.crew.Crew.follow.Given as goal

abbrev pub invariant-loop-number : goal.invariant-loop-number
invariant-loop-number l = Follows l.initial.self l.self (take l.number-index l.schedule)
