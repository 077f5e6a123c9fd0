-- The law is the lemma.
use Rattle.slab_rules.proofs.Joined.{Carries-joined}
use Rattle.slab_rules.proofs.laws.joined_carries_one_more.Goals as goal

pub returns : goal.returns
returns c = Carries-joined
