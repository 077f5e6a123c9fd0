use Rattle.mill_laws.proofs.PlanLaws.{plan-in-rank-is-legal, plan-in-rank-loses-the-same}
use Rattle.mill_laws.proofs.plans.plan_in_rank.Goals as goal

pub returns-clause-legal : goal.returns-clause-legal
returns-clause-legal c = plan-in-rank-is-legal

pub returns-clause-loss : goal.returns-clause-loss
returns-clause-loss c = plan-in-rank-loses-the-same
