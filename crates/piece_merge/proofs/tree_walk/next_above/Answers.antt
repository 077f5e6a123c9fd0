use Rattle.std.proofs.Common.{◌∙◌, sym}
use Rattle.piece_merge.proofs.NextNode.{passed-leaf, passed-up, sibling-next}
use Rattle.piece_merge.proofs.tree_walk.next_above.Goals as goal

pub loop-parent-init : goal.loop-parent-init
loop-parent-init c = record {
  tree = c.requires.tree;
  passed = passed-leaf c.args.links.now c.requires.tree c.args.node c.requires.node
      c.requires.leaf;
}

pub returns-in-Some-next_sibling : goal.returns-in-Some-next_sibling
returns-in-Some-next_sibling c =
    let inv = c.loop-parent.invariant in
    let up = sym c.parent.ensures.is ∙ c.in-Some.is in
    sibling-next c.args.links.now inv.tree c.args.node c.loop-parent.at c.in-Some.parent inv.passed
    up c.in-Some-next_sibling.next
    (sym c.next_sibling.ensures.is ∙ c.in-Some-next_sibling.is)

pub loop-parent-preserved : goal.loop-parent-preserved
loop-parent-preserved c =
    let inv = c.loop-parent.invariant in
    let up = sym c.parent.ensures.is ∙ c.in-Some.is in
    record {
      tree = inv.tree;
      passed = passed-up c.args.links.now inv.tree c.args.node c.loop-parent.at c.in-Some.parent
          inv.passed up (sym c.next_sibling.ensures.is ∙ c.in_default-next_sibling.is);
    }
