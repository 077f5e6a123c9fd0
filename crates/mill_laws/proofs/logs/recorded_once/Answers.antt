use Rattle.mill_laws.proofs.LogLaws.{recorded-once}
use Rattle.mill_laws.proofs.logs.recorded_once.Goals as goal

pub returns : goal.returns
returns c = recorded-once
