use Rattle.std.proofs.Common.{length}
use Rattle.core_machine.specs.Ends.{measure}
use Rattle.core_replay.proofs.Loops.{RunsOut}
use Rattle.core_replay.proofs.crew.Crew.run_out.Given as goal

abbrev pub invariant-rounds : goal.invariant-rounds
invariant-rounds l = RunsOut l.initial.self l.self

-- each round in which not every worker stopped leaves less to do
abbrev pub decreases-rounds : goal.decreases-rounds
decreases-rounds l = measure (length l.self.ranked.placed) l.self.budget l.self.core
