use Rattle.core_replay.proofs.Loops.{less-to-do, runs-out-last, runs-out-more}
use Rattle.core_replay.proofs.crew.Crew.run_out.Goals as goal

pub returns-then-branch-clause-rounds : goal.returns-then-branch-clause-rounds
returns-then-branch-clause-rounds c =
    runs-out-last c.args.self.now c.rounds.self c.round.new.self c.in_ok-round.field-0
    c.rounds.invariant c.in_ok-round.ensures.round c.if-branch.true

pub rounds-smaller : goal.rounds-smaller
rounds-smaller c =
    less-to-do c.args.self.now c.rounds.self c.round.new.self c.in_ok-round.field-0
    c.rounds.invariant c.in_ok-round.ensures.round c.if-branch.false c.round.ensures.same

pub rounds-preserved : goal.rounds-preserved
rounds-preserved c =
    runs-out-more c.args.self.now c.rounds.self c.round.new.self c.in_ok-round.field-0
    c.rounds.invariant c.in_ok-round.ensures.round c.if-branch.false c.round.ensures.same
    c.in_ok-round.ensures.ready
