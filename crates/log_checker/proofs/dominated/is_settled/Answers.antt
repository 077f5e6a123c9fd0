-- A search by halves: all records before `low` come before the path, and all from `high` on after
-- it.
use Rattle.std.proofs.Common.{◌≡◌, ◌<◌, ◌+◌, ◌-◌, ◌/◌, length, sym, arith, rules, true}
use Rattle.list_laws.specs.Sets.{same_list}
use Rattle.refute_log.specs.Rising.{path_order}
use Rattle.refute_log.proofs.Order.{order-same, order-before, order-after}
use Rattle.std.specs.declared.cmp.Ordering.TheVariants as order
use Rattle.log_checker.proofs.OneRecord.{recorded-at}
use Rattle.log_checker.proofs.Named.{all-before, all-after, settled-between, settled-at, same-sym'}
use Rattle.log_checker.proofs.dominated.is_settled.Goals as goal

pub loop-low-preserved-in-Less : goal.loop-low-preserved-in-Less
loop-low-preserved-in-Less c =
    let m : c.loop-low.low + (c.loop-low.high - c.loop-low.low) / 2 < length c.args.log.now =
    omega arith in
    let q =
    recorded-at c.args.log.now (c.loop-low.low + (c.loop-low.high - c.loop-low.low) / 2)
    c.index-log-middle.result m c.index-log-middle.is in
    let o : path_order c.index-log-middle.result.path c.args.path.now ≡ order.Less = search rules in
    record {
      order = omega arith;
      within = c.loop-low.invariant.within;
      before =
          all-before c.args.log.now c.args.path.now (c.loop-low.low
          + (c.loop-low.high - c.loop-low.low) / 2) c.index-log-middle.result c.requires m q
          (order-before c.index-log-middle.result.path c.args.path.now o);
      after = c.loop-low.invariant.after;
    }

pub loop-low-preserved : goal.loop-low-preserved
loop-low-preserved c =
    let m : c.loop-low.low + (c.loop-low.high - c.loop-low.low) / 2 < length c.args.log.now =
    omega arith in
    let q =
    recorded-at c.args.log.now (c.loop-low.low + (c.loop-low.high - c.loop-low.low) / 2)
    c.index-log-middle.result m c.index-log-middle.is in
    let o : path_order c.index-log-middle.result.path c.args.path.now ≡ order.Greater =
    search rules in
    record {
      order = omega arith;
      within = omega arith;
      before = c.loop-low.invariant.before;
      after =
          all-after c.args.log.now c.args.path.now (c.loop-low.low
          + (c.loop-low.high - c.loop-low.low) / 2) c.index-log-middle.result c.requires q
          (order-after c.index-log-middle.result.path c.args.path.now o);
    }

pub returns-in-Equal : goal.returns-in-Equal
returns-in-Equal c =
    let m : c.loop-low.low + (c.loop-low.high - c.loop-low.low) / 2 < length c.args.log.now =
    omega arith in
    let o : path_order c.index-log-middle.result.path c.args.path.now ≡ order.Equal =
    search rules in
    let s : same_list c.args.path.now c.index-log-middle.result.path ≡ true =
    same-sym' c.args.path.now c.index-log-middle.result.path
    (order-same c.index-log-middle.result.path c.args.path.now o) in
    rw c.is_dominated.ensures (sym (settled-at c.args.log.now c.args.path.now
    (c.loop-low.low + (c.loop-low.high - c.loop-low.low) / 2) c.index-log-middle.result
    c.requires m c.index-log-middle.is s))

pub returns : goal.returns
returns c =
    sym (settled-between c.args.log.now c.args.path.now c.loop-low.low c.loop-low.high
    (omega (arith, c.loop-low-test.false)) c.loop-low.invariant.before c.loop-low.invariant.after)
