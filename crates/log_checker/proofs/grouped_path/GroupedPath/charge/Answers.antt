use Rattle.std.proofs.Common.{◌≡◌, ◌∙◌, arith, ap, length}
use Rattle.list_laws.specs.Sets.{total}
use Rattle.log_checker.specs.ByRules.{charge_by}
use Rattle.log_checker.specs.PathGroups.{group_of}
use Rattle.log_checker.proofs.LossOfGroups.{loss-groups}
use Rattle.log_checker.proofs.grouped_path.GroupedPath.charge.Goals as goal

pub returns : goal.returns
returns c =
    let its = c.args.self.now in
    let all : c.loop-g.g ≡ length its.groups.items = omega (arith, c.loop-g-test.false) in
    c.loop-g.invariant.is
    ∙ ap (λ n. total n (λ g. charge_by its.rules.now (group_of its g).load)) all
    ∙ loss-groups (charge_by its.rules.now) its.groups.items its.path.now
    its.rules.now.ranked.items its.rules.now.setting.none its.grouped its.few
