-- The law is the lemma.
use Rattle.large_moves.proofs.MovesPromise.{no-moves}
use Rattle.large_moves.proofs.laws.no_moves_promise_nothing.Goals as goal

pub returns : goal.returns
returns c = no-moves
