use Rattle.std.proofs.Common.{arith, rules}
use Rattle.std.proofs.lemmas.Grind.{common_steps}
use Rattle.slab_rules.specs.OpenSlab.{IsOpenSlab}
use Rattle.slab_rules.proofs.Joined.{fits-legal}
use Rattle.slab_rules.proofs.open_slab.OpenSlab.fits.Goals as goal

pub returns-then-has-clause-legal : goal.returns-then-has-clause-legal
returns-then-has-clause-legal c =
    let kept : IsOpenSlab c.args.self.now = search rules in
    fits-legal _ c.args.self.now c.args.order kept (search rules)

pub returns-else-has-clause-legal : goal.returns-else-has-clause-legal
returns-else-has-clause-legal c =
    let kept : IsOpenSlab c.args.self.now = search rules in
    fits-legal _ c.args.self.now c.args.order kept (grind (arith, common_steps))

pub returns-else-order-self-clause-legal : goal.returns-else-order-self-clause-legal
returns-else-order-self-clause-legal c =
    let kept : IsOpenSlab c.args.self.now = search rules in
    fits-legal _ c.args.self.now c.args.order kept (search rules)
