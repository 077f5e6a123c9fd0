use Rattle.mill_laws.proofs.PriceLaws.{swept-prices-are-valid, swept-prices-are-worth-no-less}
use Rattle.mill_laws.proofs.prices.swept_prices.Goals as goal

pub returns-clause-valid : goal.returns-clause-valid
returns-clause-valid c = swept-prices-are-valid

pub returns-clause-worth : goal.returns-clause-worth
returns-clause-worth c = swept-prices-are-worth-no-less
