-- The law is the lemma.
use Rattle.large_moves.proofs.MovesPromise.{bound-falls}
use Rattle.large_moves.proofs.laws.bound_falls_with_moves.Goals as goal

pub returns : goal.returns
returns c = bound-falls
