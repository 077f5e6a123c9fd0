use Rattle.core_machine.proofs.SmallRuns.{done-alone, records-alone, finds-a-plan}
use Rattle.core_machine.proofs.SmallRuns.{publishes-its-loss}
use Rattle.core_machine.proofs.rows.one_worker.Goals as goal

pub returns-clause-done : goal.returns-clause-done
returns-clause-done c = done-alone

pub returns-clause-records : goal.returns-clause-records
returns-clause-records c = records-alone

pub returns-clause-finds : goal.returns-clause-finds
returns-clause-finds c = finds-a-plan

pub returns-clause-publishes : goal.returns-clause-publishes
returns-clause-publishes c = publishes-its-loss
