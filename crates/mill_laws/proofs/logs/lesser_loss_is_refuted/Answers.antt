use Rattle.mill_laws.proofs.LogLaws.{lesser-loss-is-refuted}
use Rattle.mill_laws.proofs.logs.lesser_loss_is_refuted.Goals as goal

pub returns : goal.returns
returns c = lesser-loss-is-refuted
