use Rattle.std.proofs.Common.{refl, subst}
use Rattle.search_step.specs.Steps.{Steps}
use Rattle.search_step.specs.declared.parts.Turn.{Turn}
use Rattle.running_worker.proofs.AtWork.{stays-at-work}
use Rattle.running_worker.proofs.Losses.{stopped-calm}
use Rattle.running_worker.specs.Running.{running_did}
use Rattle.running_worker.proofs.running.step.Goals as goal

pub returns-clause-work : goal.returns-clause-work
returns-clause-work c =
    stays-at-work c.args.worker.now c.step.new.self c.args.hand.now c.step.new.hand c.step.result
    c.step.ensures.step c.step.ensures.keeps c.step.ensures.honest c.step.ensures.ranked
    c.step.ensures.charges c.step.ensures.number c.step.ensures.workers

pub returns-clause-calm : goal.returns-clause-calm
returns-clause-calm c stopped =
    stopped-calm c.args.worker.now.ranked c.args.worker.now.charges c.args.worker.now.workers
    c.args.worker.now.number c.args.worker.now.parts c.args.hand.now c.step.new.self.parts
    c.step.new.hand c.args.worker.now.parts.phase refl
    (subst (λ (t : Turn). Steps running_did c.args.worker.now.ranked c.args.worker.now.charges
    c.args.worker.now.workers c.args.worker.now.number c.args.worker.now.parts c.args.hand.now t
    c.step.new.self.parts c.step.new.hand) stopped c.step.ensures.step)
