use Rattle.core_machine.proofs.SmallRuns.{holds-what-it-stole, thief-records, first-records}
use Rattle.core_machine.proofs.rows.two_workers.Goals as goal

pub returns-clause-holds : goal.returns-clause-holds
returns-clause-holds c = holds-what-it-stole

pub returns-clause-thief : goal.returns-clause-thief
returns-clause-thief c = thief-records

pub returns-clause-first : goal.returns-clause-first
returns-clause-first c = first-records
