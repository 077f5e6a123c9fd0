use Rattle.mill_laws.proofs.RunLaws.{no-path-twice}
use Rattle.mill_laws.proofs.runs.no_path_twice.Goals as goal

pub returns : goal.returns
returns c = no-path-twice
