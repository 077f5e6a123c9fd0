use Rattle.mill_laws.proofs.PriceLaws.{ascent-prices-are-valid, ascent-worth-is-theirs}
use Rattle.mill_laws.proofs.prices.ascent_prices.Goals as goal

pub returns-clause-valid : goal.returns-clause-valid
returns-clause-valid c = ascent-prices-are-valid

pub returns-clause-worth : goal.returns-clause-worth
returns-clause-worth c = ascent-worth-is-theirs
