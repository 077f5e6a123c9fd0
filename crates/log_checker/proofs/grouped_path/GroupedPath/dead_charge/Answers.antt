use Rattle.std.proofs.Common.{◌≡◌, ◌<◌, ◌∙◌, arith, ap, length, cond, refl, rules}
use Rattle.list_laws.specs.Sets.{total}
use Rattle.log_checker.specs.ByRules.{mill_by, charge_by}
use Rattle.log_checker.specs.Live.{lives}
use Rattle.log_checker.specs.PathGroups.{group_of, later}
use Rattle.log_checker.proofs.LiveGroups.{dead-is}
use Rattle.log_checker.proofs.grouped_path.GroupedPath.dead_charge.Goals as goal

pub overflow_add-sum : goal.overflow_add-sum
overflow_add-sum c =
    let its = c.args.self.now in
    let n : c.len-g-end.result ≡ length its.groups.items = search rules in
    let inside : c.loop-g.g < length its.groups.items = omega (arith, c.loop-g-test.true) in
    omega (
      arith,
      c.loop-g.invariant.small,
      c.charge_of-sum.ensures.small,
      inside,
      its.grouped.count,
      its.few,
      its.rules.now.setting.few,
    )

pub returns : goal.returns
returns c =
    let its = c.args.self.now in
    let all : c.loop-g.g ≡ length its.groups.items = omega (arith, c.loop-g-test.false) in
    c.loop-g.invariant.is
    ∙ ap (λ n. total n (λ g. cond (lives (mill_by its.rules.now) (later its) (group_of its g)) 0
    (charge_by its.rules.now (group_of its g).load))) all
    ∙ dead-is (mill_by its.rules.now) (charge_by its.rules.now) its.rules.now.ranked.items
    its.groups.items its.path.now (length its.path.now) its.grouped refl
