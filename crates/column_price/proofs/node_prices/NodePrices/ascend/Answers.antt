use Rattle.std.proofs.Common.{ℤ, List, subst, sym}
use Rattle.mill_model.specs.Charges.{charge_of}
use Rattle.split_tree.specs.Node.{IsNode}
use Rattle.column_price.specs.Nodes.{Pricing, AreSlacks}
use Rattle.column_price.proofs.ValidSlacks.{ascent-valid-slacks}
use Rattle.column_price.proofs.node_prices.NodePrices.ascend.Goals as goal

pub invariant_of-result : goal.invariant_of-result
invariant_of-result c =
    let start = c.on_groups.new.self in
    let node = subst (λ (p : Pricing). IsNode p.node) (sym c.in_ok-groups.ensures.kept)
    c.in_ok-groups.ensures.pricing.node in
    ascent-valid-slacks start c.raise.new.slacks c.in_ok-groups.groups.items node
    c.raise.ensures.is
    (subst (λ (s : List ℤ). AreSlacks start.node (charge_of start.charges) c.raise.new.slacks.prices
    s) c.deref.ensures.value c.raise.ensures.firsts)
