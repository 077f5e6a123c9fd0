use Rattle.log_checker.proofs.GroupsOfPath.{GroupsTo}
use Rattle.log_checker.proofs.grouped_path.fill_groups.Given as goal

abbrev pub invariant-loop-i : goal.invariant-loop-i
invariant-loop-i l = GroupsTo l.groups l.path l.rules.ranked.items l.i
