use Rattle.mill_laws.proofs.PriceLaws.{weak-duality-law}
use Rattle.mill_laws.proofs.prices.weak_duality.Goals as goal

pub returns : goal.returns
returns c = weak-duality-law
