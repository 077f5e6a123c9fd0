use Rattle.std.proofs.Common.{◌≡◌, ◌≤◌, length, ◌∷◌, ◌++◌, [], ap, ◌∙◌, subst}
use Rattle.mill_model.specs.Slab.{legal}
use Rattle.slab_rules.specs.OpenSlab.{OpenSlab}
use Rattle.split_tree.specs.Node.{Node, group_of}
use Rattle.split_tree.proofs.Nodes.{fits-new}
use Rattle.split_tree.proofs.node.NodeState.takes.Goals as goal

pub returns-in-None : goal.returns-in-None
returns-in-None c =
    let mill : c.empty.result.mill ≡ c.self.inside.ranked.now.mill =
    ap (λ (s : OpenSlab). s.mill) c.empty.ensures.is
    ∙ (λ i. record { largest = c.largest.ensures.is i; most_colours = c.p.ensures.is i }) in
    let past : length c.self.inside.groups.items ≤ c.args.group =
    rw c.deref.ensures.value at c.in-None.ensures.lookup.3 in
    subst (λ (node : Node). c.fits-in-None-2.result ≡ legal node.ranked.mill (group_of node
    c.args.group ++ c.args.order ∷ [])) c.self.view_is (fits-new _ c.self.inside.groups.items
    c.self.invariant.1 c.args.group past c.args.order c.empty.result.mill mill
    c.fits-in-None-2.result
    (c.fits-in-None-2.ensures.legal [] c.empty.ensures.carries))
