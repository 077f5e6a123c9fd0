use Rattle.std.proofs.Common.{◌+◌, ◌≡◌, ◌∙◌, length, ap, rules}
use Rattle.mill_model.specs.Tree.{next_new, may_go_on}
use Rattle.log_checker.specs.ByRules.{mill_by}
use Rattle.log_checker.proofs.WaitingPaths.{opened-more}
use Rattle.log_checker.proofs.agenda.open_children.Goals as goal

pub loop-j-preserved : goal.loop-j-preserved
loop-j-preserved c =
    let its = c.args.path.now in
    let n : c.len-top.result ≡ length its.groups.items = search rules in
    let e : c.len-top.result + 1 ≡ next_new its.path.now + 1 =
    ap (λ n. n + 1) (n ∙ its.grouped.count) in
    opened-more (may_go_on (mill_by its.rules.now) its.rules.now.ranked.items its.path.now)
    c.args.parent (next_new its.path.now + 1) c.len-top.result c.loop-j.j
    c.args.waiting.now.items c.loop-j.waiting.items c.open_child.new.waiting.items e
    c.loop-j.invariant c.in_ok-open_child.ensures
