use Rattle.std.proofs.Common.{◌∙◌}
use Rattle.search_step.proofs.Deciding.{groups-lose, leaf-better, leaf-plain}
use Rattle.search_step.proofs.decide.decide_leaf.Goals as goal

pub returns-in_ok-plan : goal.returns-in_ok-plan
returns-in_ok-plan c =
    let node = c.args.node.now in
    leaf-better node.ranked c.args.charges.now node.path c.args.known c.leaf_loss-loss.result
    c.in_ok-plan.plan (c.leaf_loss-loss.ensures.is ∙ groups-lose node.ranked c.args.charges.now
    node.path c.leaf_loss-loss.ensures.kept) c.if-loss-known.true c.in_ok-plan.ensures.is

pub returns-else-loss-known : goal.returns-else-loss-known
returns-else-loss-known c =
    let node = c.args.node.now in
    leaf-plain node.ranked c.args.charges.now node.path c.args.known c.leaf_loss-loss.result
    (c.leaf_loss-loss.ensures.is ∙ groups-lose node.ranked c.args.charges.now node.path
    c.leaf_loss-loss.ensures.kept) c.if-loss-known.false
