use Rattle.std.proofs.Common.{◌≡◌, ◌≤◌, length, ap, rules}
use Rattle.mill_model.specs.declared.order.TheConstants.{MAX_ORDERS}
use Rattle.split_tree.proofs.Nodes.{path-short, path-long}
use Rattle.split_tree.proofs.node.NodeState.depth.Goals as goal

pub overflow_cast-result : goal.overflow_cast-result
overflow_cast-result c =
    let short : length c.self.inside.path ≤ MAX_ORDERS = path-short _ c.self.invariant.0 in
    let same : length c.numbers.result.now ≡ length c.self.inside.path =
    ap length c.numbers.ensures in
    search rules

pub returns-clause-within : goal.returns-clause-within
returns-clause-within c =
    let same : length c.numbers.result.now ≡ length c.self.inside.path =
    ap length c.numbers.ensures in
    let long : length c.self.inside.path ≤ length c.self.inside.ranked.now.placed =
    path-long _ c.self.invariant.0 in
    search rules
