use Rattle.mill_laws.proofs.PlanLaws.{each-alone-is-legal}
use Rattle.mill_laws.proofs.plans.each_alone.Goals as goal

pub returns : goal.returns
returns c = each-alone-is-legal
