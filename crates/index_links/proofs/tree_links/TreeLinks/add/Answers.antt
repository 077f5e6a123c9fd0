-- The lemmas of LinksWithNode say what the tables become; here the tables of the struct are put for
-- theirs.
use Rattle.std.proofs.Common.{Some}
use Rattle.index_links.proofs.LinksWithNode.{added, added-forest, added-links, before-within}
use Rattle.index_links.proofs.LinksWithNode.{child-is, root-is}
use Rattle.index_links.proofs.tree_links.TreeLinks.add.Goals as goal

pub add-requires-clause-before : goal.add-requires-clause-before
add-requires-clause-before c =
    let nodes = c.self.inside.nodes in
    before-within c.args.self.now nodes.labels.items nodes.parents.items nodes.firsts.items
    nodes.nexts.items c.self.inside.last_root c.self.view_is c.self.invariant c.args.parent
    c.args.label c.requires.there c.requires.apart c.sibling_before-before.result
    c.sibling_before-before.ensures

pub invariant_of-self-then-is_none : goal.invariant_of-self-then-is_none
invariant_of-self-then-is_none c =
    let nodes = c.self.inside.nodes in
    added-links c.args.self.now nodes.labels.items nodes.parents.items nodes.firsts.items
    nodes.nexts.items c.self.inside.last_root c.self.view_is c.self.invariant c.args.parent
    c.args.label c.requires.there c.requires.apart c.sibling_before-before.result
    c.sibling_before-before.ensures
    c.requires.few c.in_ok-node.node c.in_ok-node.ensures.number c.add.new.self.labels.items
    c.add.new.self.parents.items c.add.new.self.firsts.items c.add.new.self.nexts.items
    c.in_ok-node.ensures.labels c.in_ok-node.ensures.parents c.in_ok-node.ensures.firsts
    c.in_ok-node.ensures.nexts
    (Some c.in_ok-node.node)
    (root-is c.args.parent c.is_none.result (Some c.in_ok-node.node) c.self.inside.last_root
    c.is_none.ensures c.if-is_none.true)

pub invariant_of-self-else-is_none : goal.invariant_of-self-else-is_none
invariant_of-self-else-is_none c =
    let nodes = c.self.inside.nodes in
    added-links c.args.self.now nodes.labels.items nodes.parents.items nodes.firsts.items
    nodes.nexts.items c.self.inside.last_root c.self.view_is c.self.invariant c.args.parent
    c.args.label c.requires.there c.requires.apart c.sibling_before-before.result
    c.sibling_before-before.ensures
    c.requires.few c.in_ok-node.node c.in_ok-node.ensures.number c.add.new.self.labels.items
    c.add.new.self.parents.items c.add.new.self.firsts.items c.add.new.self.nexts.items
    c.in_ok-node.ensures.labels c.in_ok-node.ensures.parents c.in_ok-node.ensures.firsts
    c.in_ok-node.ensures.nexts
    c.self.inside.last_root
    (child-is c.args.parent c.is_none.result (Some c.in_ok-node.node) c.self.inside.last_root
    c.is_none.ensures c.if-is_none.false)

pub returns-then-is_none-clause-added : goal.returns-then-is_none-clause-added
returns-then-is_none-clause-added c =
    let nodes = c.self.inside.nodes in
    added c.args.self.now nodes.labels.items nodes.parents.items nodes.firsts.items
    nodes.nexts.items c.self.inside.last_root c.self.view_is c.self.invariant c.args.parent
    c.args.label c.requires.there c.requires.apart c.sibling_before-before.result
    c.sibling_before-before.ensures
    c.requires.few c.in_ok-node.node c.in_ok-node.ensures.number c.add.new.self.labels.items
    c.add.new.self.parents.items c.add.new.self.firsts.items c.add.new.self.nexts.items
    c.in_ok-node.ensures.labels c.in_ok-node.ensures.parents c.in_ok-node.ensures.firsts
    c.in_ok-node.ensures.nexts

pub returns-then-is_none-clause-kept : goal.returns-then-is_none-clause-kept
returns-then-is_none-clause-kept c =
    let nodes = c.self.inside.nodes in
    added-forest c.args.self.now nodes.labels.items nodes.parents.items nodes.firsts.items
    nodes.nexts.items c.self.inside.last_root c.self.view_is c.self.invariant c.args.parent
    c.args.label c.requires.there c.requires.apart c.sibling_before-before.result
    c.sibling_before-before.ensures
    c.requires.few c.in_ok-node.node c.in_ok-node.ensures.number c.add.new.self.labels.items
    c.add.new.self.parents.items c.add.new.self.firsts.items c.add.new.self.nexts.items
    c.in_ok-node.ensures.labels c.in_ok-node.ensures.parents c.in_ok-node.ensures.firsts
    c.in_ok-node.ensures.nexts

pub returns-else-is_none-clause-added : goal.returns-else-is_none-clause-added
returns-else-is_none-clause-added c =
    let nodes = c.self.inside.nodes in
    added c.args.self.now nodes.labels.items nodes.parents.items nodes.firsts.items
    nodes.nexts.items c.self.inside.last_root c.self.view_is c.self.invariant c.args.parent
    c.args.label c.requires.there c.requires.apart c.sibling_before-before.result
    c.sibling_before-before.ensures
    c.requires.few c.in_ok-node.node c.in_ok-node.ensures.number c.add.new.self.labels.items
    c.add.new.self.parents.items c.add.new.self.firsts.items c.add.new.self.nexts.items
    c.in_ok-node.ensures.labels c.in_ok-node.ensures.parents c.in_ok-node.ensures.firsts
    c.in_ok-node.ensures.nexts

pub returns-else-is_none-clause-kept : goal.returns-else-is_none-clause-kept
returns-else-is_none-clause-kept c =
    let nodes = c.self.inside.nodes in
    added-forest c.args.self.now nodes.labels.items nodes.parents.items nodes.firsts.items
    nodes.nexts.items c.self.inside.last_root c.self.view_is c.self.invariant c.args.parent
    c.args.label c.requires.there c.requires.apart c.sibling_before-before.result
    c.sibling_before-before.ensures
    c.requires.few c.in_ok-node.node c.in_ok-node.ensures.number c.add.new.self.labels.items
    c.add.new.self.parents.items c.add.new.self.firsts.items c.add.new.self.nexts.items
    c.in_ok-node.ensures.labels c.in_ok-node.ensures.parents c.in_ok-node.ensures.firsts
    c.in_ok-node.ensures.nexts
