use Rattle.std.proofs.Common.{rules}
use Rattle.search_step.proofs.Lasts.{pushes-ok, pushes-refused}
use Rattle.search_step.proofs.work.Work.push.Goals as goal

pub returns-in-Ok-clause-step : goal.returns-in-Ok-clause-step
returns-in-Ok-clause-step g c =
    pushes-ok g.H.Hand.did c.args.self.now _ c.args.hand.now c.push.new.self c.pop.new.self.items
    c.in-Some.path (search rules) c.in-Ok.ensures.did (search rules)

pub returns-in-Err-clause-step : goal.returns-in-Err-clause-step
returns-in-Err-clause-step g c =
    pushes-refused g.H.Hand.did c.args.self.now _ c.args.hand.now c.push.new.self
    c.pop.new.self.items c.in-Some.path (search rules) (search rules) (search rules)
