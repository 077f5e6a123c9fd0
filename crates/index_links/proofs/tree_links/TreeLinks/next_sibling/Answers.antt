use Rattle.std.proofs.Common.{None, ◌≡◌, ◌<◌, ◌∙◌, sym, subst, arith}
use Rattle.std.proofs.lemmas.List.{get_or_default}
use Rattle.index_links.specs.Lists.{after}
use Rattle.index_links.specs.Forest.{Forest, nodes_of, siblings_of}
use Rattle.index_links.specs.Nodes.{forest_of}
use Rattle.index_links.proofs.ForestLinks.{next-is}
use Rattle.index_links.proofs.tree_links.TreeLinks.next_sibling.Goals as goal

pub returns-clause-is : goal.returns-clause-is
returns-clause-is c =
    let nodes = c.self.inside.nodes in
    let forest = forest_of nodes.labels.items nodes.parents.items nodes.firsts.items
    nodes.nexts.items in
    let low : c.args.node < nodes_of forest =
    subst (λ (f : Forest). c.args.node < nodes_of f) (sym c.self.view_is) c.requires in
    let at = c.index.ensures
    ∙ get_or_default nodes.nexts.items c.args.node c.index.result.now None
    (omega (arith, low, c.self.invariant.nexts_count)) in
    subst (λ (f : Forest). c.index.result.now ≡ after c.args.node (siblings_of f c.args.node))
    c.self.view_is
    (at ∙ next-is nodes.firsts.items nodes.nexts.items c.self.inside.last_root forest
    c.self.invariant c.args.node low)
