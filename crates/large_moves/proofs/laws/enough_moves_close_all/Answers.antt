-- The law is the lemma.
use Rattle.large_moves.proofs.MovesPromise.{enough-moves}
use Rattle.large_moves.proofs.laws.enough_moves_close_all.Goals as goal

pub returns : goal.returns
returns c = enough-moves
