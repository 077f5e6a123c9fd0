-- The law is the lemma.
use Rattle.slab_rules.proofs.Joined.{bounds-legal}
use Rattle.slab_rules.proofs.laws.within_bounds_is_legal.Goals as goal

pub returns : goal.returns
returns c = bounds-legal
