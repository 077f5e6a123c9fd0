use Rattle.std.proofs.Common.{rules}
use Rattle.running_worker.proofs.Calls.{pops}
use Rattle.running_worker.proofs.running_hand.RunningHandHand.take.Goals as goal

pub returns-clause-did : goal.returns-clause-did
returns-clause-did c = (
  pops _ c.pop-path.result _ (search rules) (search rules) (search rules) (search rules),
  search rules,
)
