use Rattle.core_machine.proofs.RunLaws.{each-run-ends, one-last-state}
use Rattle.core_machine.proofs.laws.each_run_ends.Goals as goal

pub returns-clause-ends : goal.returns-clause-ends
returns-clause-ends c = each-run-ends

pub returns-clause-one : goal.returns-clause-one
returns-clause-one c = one-last-state
