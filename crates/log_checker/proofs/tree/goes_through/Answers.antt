use Rattle.std.proofs.Common.{◌≤◌, ◌≡◌, ◌<◌, ◌+◌, sym, ap, ◌∙◌, arith, rules, get_or, add-one, max}
use Rattle.mill_model.specs.Tree.{next_new}
use Rattle.log_checker.specs.Groups.{no_order}
use Rattle.log_checker.specs.ByRules.{mill_by}
use Rattle.log_checker.proofs.GroupsOfPath.{groups-more, groups-all, number-below}
use Rattle.log_checker.proofs.PathsGoOn.{goes-further, next_new-push}
use Rattle.log_checker.proofs.tree.goes_through.Goals as goal

pub goes_on_at-on-requires-clause-seen : goal.goes_on_at-on-requires-clause-seen
goes_on_at-on-requires-clause-seen c =
    c.loop-k.invariant.groups.seen (get_or c.args.path.now c.loop-k.k 0)
    (number-below c.loop-k.k c.args.path.now c.loop-k-test.true)

pub join_at-requires-clause-within : goal.join_at-requires-clause-within
join_at-requires-clause-within c =
    let a : get_or c.args.path.now c.loop-k.k 0 < next_new c.args.path.now =
    number-below c.loop-k.k c.args.path.now c.loop-k-test.true in
    omega (arith, c.loop-k.invariant.groups.count)

pub loop-k-preserved : goal.loop-k-preserved
loop-k-preserved c =
    let w : (get_or c.args.rules.now.ranked.items c.loop-k.k no_order).weight ≤ 1000000 =
    rw c.order-order.ensures.is at c.order-order.ensures.light in
    let m : c.max-count.result ≡ max c.loop-k.count (get_or c.args.path.now c.loop-k.k 0 + 1) =
    search rules in
    record {
      groups =
          rw (add-one, c.in_ok-join_at.ensures, c.order-order.ensures.is)
          (groups-more c.loop-k.groups c.args.path.now c.args.rules.now.ranked.items c.loop-k.k
          no_order c.loop-k-test.true (omega arith) w c.loop-k.invariant.groups);
      count =
          m ∙ ap (λ n. max n (get_or c.args.path.now c.loop-k.k 0 + 1)) c.loop-k.invariant.count
          ∙ sym (next_new-push c.loop-k.k c.args.path.now c.loop-k-test.true);
      goes =
          goes-further (mill_by c.args.rules.now) c.args.rules.now.ranked.items c.args.path.now
          c.loop-k.k c.loop-k-test.true c.loop-k.invariant.goes
          (rw (← c.goes_on_at-on.ensures) c.if-not-on.false);
    }

pub returns-clause-groups : goal.returns-clause-groups
returns-clause-groups c e =
    groups-all c.loop-k.groups c.args.path.now c.args.rules.now.ranked.items c.loop-k.k
    c.loop-k.invariant.groups (omega arith)
