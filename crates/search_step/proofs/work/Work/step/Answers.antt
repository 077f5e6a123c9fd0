use Rattle.search_step.proofs.Kept.{steps-keep}
use Rattle.search_step.proofs.StaysHonest.{steps-stay-honest}
use Rattle.search_step.proofs.work.Work.step.Goals as goal

pub returns-clause-keeps : goal.returns-clause-keeps
returns-clause-keeps g c =
    let setting = c.args.setting.now in
    steps-keep g.H.Hand.did setting.ranked.now setting.charges.now setting.workers setting.number
    c.args.self.now c.args.hand.now c.step_once.new.hand c.requires.among c.requires.safe
    c.step_once.result c.step_once.new.self c.step_once.ensures.step

pub returns-clause-honest : goal.returns-clause-honest
returns-clause-honest g c =
    let setting = c.args.setting.now in
    steps-stay-honest g.H.Hand.did setting.ranked.now setting.charges.now setting.workers
    setting.number c.args.self.now c.args.hand.now c.step_once.new.hand c.requires.among
    c.requires.few c.requires.fits c.requires.safe c.step_once.result c.step_once.new.self
    c.step_once.ensures.step
