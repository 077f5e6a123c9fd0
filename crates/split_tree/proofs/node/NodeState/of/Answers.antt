-- The groups are built along the path, one order after another. A path of the tree gives each order
-- to a group that stands or to the next new one, and legally, so each order may join where it goes.
use Rattle.std.proofs.Common.{◌<◌, ◌≤◌, length, rules}
use Rattle.mill_model.specs.declared.order.TheConstants.{MAX_ORDERS}
use Rattle.split_tree.proofs.Nodes.{path-short, path-long}
use Rattle.split_tree.proofs.Grown.{empty-is, IsOpenSlab-empty}
use Rattle.split_tree.proofs.Walk.{walk-number, walk-fits, walk-more}
use Rattle.split_tree.proofs.node.NodeState.of.Goals as goal

pub overflow_cast-rank : goal.overflow_cast-rank
overflow_cast-rank c =
    let short : length c.args.path.now ≤ MAX_ORDERS =
    path-short (record { ranked = c.args.ranked.now; path = c.args.path.now }) (record {
      ranked = c.largest.ensures.kept;
      tree = c.requires;
    }) in
    let below : c.loop-rank.rank < length c.args.path.now =
    rw c.numbers-numbers.ensures at c.loop-rank-test.true in
    search rules

pub join_group-requires-clause-number : goal.join_group-requires-clause-number
join_group-requires-clause-number c =
    let numbers = c.numbers-numbers.ensures in
    rw numbers
    (walk-number c.args.ranked.now c.args.path.now c.loop-rank.rank c.order.result c.requires
    (rw numbers at c.loop-rank-test.true) c.order.ensures.is c.loop-rank.groups.items
    c.loop-rank.invariant)

pub join_group-requires-clause-fits : goal.join_group-requires-clause-fits
join_group-requires-clause-fits c =
    let numbers = c.numbers-numbers.ensures in
    let start = empty-is c.args.ranked.now.mill c.largest.result c.p.result c.empty-empty.result
    c.largest.ensures.is c.p.ensures.is c.empty-empty.ensures.is in
    rw numbers
    (walk-fits c.args.ranked.now c.args.path.now c.loop-rank.rank c.order.result c.requires
    (rw numbers at c.loop-rank-test.true) c.order.ensures.is c.loop-rank.groups.items
    c.loop-rank.invariant c.empty-empty.result start
    (rw start (IsOpenSlab-empty c.args.ranked.now.mill
    (rw c.largest.ensures.is at c.largest.ensures.high) (rw c.p.ensures.is at c.p.ensures.low)
    (rw c.p.ensures.is at c.p.ensures.high))))

pub loop-rank-preserved : goal.loop-rank-preserved
loop-rank-preserved c =
    let numbers = c.numbers-numbers.ensures in
    let start = empty-is c.args.ranked.now.mill c.largest.result c.p.result c.empty-empty.result
    c.largest.ensures.is c.p.ensures.is c.empty-empty.ensures.is in
    rw (c.in_ok-join_group.ensures.joined, numbers)
    (walk-more c.args.ranked.now c.args.path.now c.loop-rank.rank c.order.result c.requires
    (rw numbers at c.loop-rank-test.true) c.order.ensures.is c.loop-rank.groups.items
    c.loop-rank.invariant c.empty-empty.result start
    (rw start (IsOpenSlab-empty c.args.ranked.now.mill
    (rw c.largest.ensures.is at c.largest.ensures.high) (rw c.p.ensures.is at c.p.ensures.low)
    (rw c.p.ensures.is at c.p.ensures.high))))

pub order-requires : goal.order-requires
order-requires c =
    let long : length c.args.path.now ≤ length c.args.ranked.now.placed =
    path-long (record { ranked = c.args.ranked.now; path = c.args.path.now }) (record {
      ranked = c.largest.ensures.kept;
      tree = c.requires;
    }) in
    let below : c.loop-rank.rank < length c.args.path.now =
    rw c.numbers-numbers.ensures at c.loop-rank-test.true in
    search rules
