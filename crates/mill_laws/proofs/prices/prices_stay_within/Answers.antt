use Rattle.mill_laws.proofs.PricesWithin.{swept-prices-stay-within, ascent-prices-stay-within}
use Rattle.mill_laws.proofs.prices.prices_stay_within.Goals as goal

pub returns-clause-swept : goal.returns-clause-swept
returns-clause-swept c = swept-prices-stay-within

pub returns-clause-ascent : goal.returns-clause-ascent
returns-clause-ascent c = ascent-prices-stay-within
