use Rattle.mill_laws.proofs.Ranking.{rank-rises, rank-has-the-orders, rank-is-the-only-one}
use Rattle.mill_laws.proofs.plans.rank_of_orders.Goals as goal

pub returns-clause-rises : goal.returns-clause-rises
returns-clause-rises c = rank-rises

pub returns-clause-orders : goal.returns-clause-orders
returns-clause-orders c = rank-has-the-orders

pub returns-clause-alone : goal.returns-clause-alone
returns-clause-alone c = rank-is-the-only-one
