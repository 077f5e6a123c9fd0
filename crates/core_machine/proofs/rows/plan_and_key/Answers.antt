use Rattle.core_machine.proofs.SmallRuns.{plan-in-the-file, key-in-order}
use Rattle.core_machine.proofs.rows.plan_and_key.Goals as goal

pub returns-clause-plan : goal.returns-clause-plan
returns-clause-plan c = plan-in-the-file

pub returns-clause-key : goal.returns-clause-key
returns-clause-key c = key-in-order
