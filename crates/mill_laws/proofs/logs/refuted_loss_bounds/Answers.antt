use Rattle.mill_laws.proofs.LogLaws.{refuted-loss-bounds}
use Rattle.mill_laws.proofs.logs.refuted_loss_bounds.Goals as goal

pub returns : goal.returns
returns c = refuted-loss-bounds
