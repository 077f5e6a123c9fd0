use Rattle.std.proofs.Common.{◌≡◌, ◌+◌, ◌++◌}
use Rattle.mill_model.specs.Tree.{next_new, may_go_on}
use Rattle.log_checker.specs.ByRules.{mill_by}
use Rattle.log_checker.specs.Agenda.{opened}
use Rattle.log_checker.proofs.agenda.open_children.Given as goal

abbrev pub invariant-loop-j : goal.invariant-loop-j
invariant-loop-j l =
    l.waiting.items ≡ l.fn.waiting.items
    ++ opened (may_go_on (mill_by l.path.rules.now) l.path.rules.now.ranked.items l.path.path.now)
    l.parent (next_new l.path.path.now + 1) l.j
