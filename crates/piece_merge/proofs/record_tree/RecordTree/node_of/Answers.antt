use Rattle.std.proofs.Common.{◌∙◌, arith}
use Rattle.std.proofs.lemmas.Grind.{get_or_default_zero}
use Rattle.piece_merge.proofs.Placing.{node-more}
use Rattle.piece_merge.proofs.record_tree.RecordTree.node_of.Goals as goal

pub loop-label-preserved : goal.loop-label-preserved
loop-label-preserved c =
    let inv = c.loop-label.invariant in
    let child = c.in_ok-node.ensures in
    let more = node-more c.args.path.now c.args.self.now.links c.loop-label.self.links
    c.child.new.self.links c.loop-label.node c.in_ok-node.node c.loop-label.label-index _ inv.grew
    child.grew c.loop-label-test.true inv.at child.path
    (first_of (cc, grind (arith, get_or_default_zero))) in
    record {
      tree = child.tree;
      there = child.there;
      at = more.1;
      few = omega (arith, inv.few, child.grew.few);
      records = child.records ∙ inv.records;
      grew = more.0;
    }
