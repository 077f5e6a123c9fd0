use Rattle.std.proofs.Common.{◌≤◌, ◌<◌, get_or, arith, add-one}
use Rattle.mill_model.specs.Tree.{next_new}
use Rattle.log_checker.proofs.GroupsOfPath.{groups-more, number-below, groups-all}
use Rattle.log_checker.specs.Groups.{no_order}
use Rattle.log_checker.proofs.grouped_path.fill_groups.Goals as goal

pub join_at-requires-clause-within : goal.join_at-requires-clause-within
join_at-requires-clause-within c =
    let a : get_or c.args.path.now c.loop-i.i 0 < next_new c.args.path.now =
    number-below c.loop-i.i c.args.path.now c.loop-i-test.true in
    omega (arith, c.loop-i.invariant.count)

pub join_at-requires-clause-room : goal.join_at-requires-clause-room
join_at-requires-clause-room c =
    let l =
    c.loop-i.invariant.light (get_or c.args.path.now c.loop-i.i 0)
    (number-below c.loop-i.i c.args.path.now c.loop-i-test.true) in
    let w : (get_or c.args.rules.now.ranked.items c.loop-i.i no_order).weight ≤ 1000000 =
    rw c.order-order.ensures.is at c.order-order.ensures.light in
    rw c.order-order.ensures.is (omega (arith, l))

pub loop-i-preserved : goal.loop-i-preserved
loop-i-preserved c =
    let w : (get_or c.args.rules.now.ranked.items c.loop-i.i no_order).weight ≤ 1000000 =
    rw c.order-order.ensures.is at c.order-order.ensures.light in
    rw (add-one, c.in_ok-join_at.ensures, c.order-order.ensures.is)
    (groups-more c.loop-i.groups c.args.path.now c.args.rules.now.ranked.items c.loop-i.i
    no_order c.loop-i-test.true (omega arith) w c.loop-i.invariant)

pub returns : goal.returns
returns c =
    groups-all c.loop-i.groups c.args.path.now c.args.rules.now.ranked.items c.loop-i.i
    c.loop-i.invariant (omega arith)
