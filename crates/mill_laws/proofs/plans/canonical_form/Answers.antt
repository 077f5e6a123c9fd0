use Rattle.mill_laws.proofs.PlanLaws.{canonical-form-is-legal, canonical-form-loses-the-same}
use Rattle.mill_laws.proofs.PlanLaws.{canonical-form-is-its-own}
use Rattle.mill_laws.proofs.plans.canonical_form.Goals as goal

pub returns-clause-legal : goal.returns-clause-legal
returns-clause-legal c = canonical-form-is-legal

pub returns-clause-loss : goal.returns-clause-loss
returns-clause-loss c = canonical-form-loses-the-same

pub returns-clause-own : goal.returns-clause-own
returns-clause-own c = canonical-form-is-its-own
