use Rattle.std.proofs.Common.{rules}
use Rattle.slab_rules.specs.OpenSlab.{IsOpenSlab}
use Rattle.slab_rules.proofs.Joined.{IsOpenSlab-joined, Carries-joined}
use Rattle.slab_rules.proofs.open_slab.OpenSlab.join.Goals as goal
use Rattle.slab_rules.proofs.open_slab.OpenSlab.join.Goals.{then-not-has, else-not-has}

pub invariant_of-self : goal.invariant_of-self
invariant_of-self c =
    let kept : IsOpenSlab c.args.self.now = search rules in
    let is = IsOpenSlab-joined c.args.self.now c.args.order kept c.requires in
    elim c.if-not-has.branch [ then-not-has w ↦ search rules | else-not-has w ↦ search rules ]

pub returns-clause-carries : goal.returns-clause-carries
returns-clause-carries c = λ orders carries.
    let more = Carries-joined c.args.self.now orders c.args.order carries in
    elim c.if-not-has.branch [ then-not-has w ↦ search rules | else-not-has w ↦ search rules ]
