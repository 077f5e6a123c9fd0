use Rattle.core_machine.proofs.RunLaws.{runs-keep-their-promise, core-runs-keep-their-promise}
use Rattle.core_machine.proofs.laws.runs_keep_their_promise.Goals as goal

pub returns-clause-going_on : goal.returns-clause-going_on
returns-clause-going_on c = runs-keep-their-promise

pub returns-clause-from_the_start : goal.returns-clause-from_the_start
returns-clause-from_the_start c = core-runs-keep-their-promise
