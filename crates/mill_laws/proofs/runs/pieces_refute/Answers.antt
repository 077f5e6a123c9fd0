use Rattle.mill_laws.proofs.RunLaws.{pieces-refute}
use Rattle.mill_laws.proofs.runs.pieces_refute.Goals as goal

pub returns : goal.returns
returns c = pieces-refute
