-- That swept prices are valid and worth no less are laws.
use Rattle.std.proofs.Common.{◌≤ℤ◌, subst, sym, rules}
use Rattle.mill_model.specs.Charges.{charge_of}
use Rattle.column_price.specs.Nodes.{Pricing, AreValidSlacks, EachIsLight, worth_at}
use Rattle.column_price.proofs.ValidSlacks.{swept-valid-slacks, swept-no-less, written-back}
use Rattle.column_price.proofs.node_prices.NodePrices.improve.Goals as goal

pub invariant_of-self : goal.invariant_of-self
invariant_of-self c =
    let start = c.self.inside.slacks in
    let groups = c.self.inside.groups in
    let new = c.sweep.new.groups in
    let light = subst (λ (p : Pricing). EachIsLight p.node) (sym c.self.view_is) c.requires.light in
    subst (AreValidSlacks c.sweep.new.slacks)
    (sym (written-back new groups.items groups.len (search rules) (search rules)))
    (swept-valid-slacks start c.sweep.new.slacks c.sweep.ensures.pricing light
    c.self.invariant.of_valid c.sweep.ensures.is new c.sweep.ensures.groups)

pub returns-clause-no_less : goal.returns-clause-no_less
returns-clause-no_less c =
    let now = c.sweep.new.slacks in
    let light = subst (λ (p : Pricing). EachIsLight p.node) (sym c.self.view_is) c.requires.light in
    subst (λ (p : Pricing). worth_at p.node (charge_of p.charges) p.prices
    ≤ℤ worth_at p.node (charge_of p.charges) now.prices) c.self.view_is
    (swept-no-less c.self.inside.slacks now c.sweep.ensures.pricing light
    c.self.invariant.of_valid c.sweep.ensures.is)
