use Rattle.std.proofs.Common.{◌≡◌, [], take, drop}
use Rattle.mill_model.specs.Tree.{next_new, goes_on}
use Rattle.log_checker.specs.ByRules.{mill_by}
use Rattle.log_checker.proofs.GroupsOfPath.{GroupsTo}
use Rattle.log_checker.proofs.tree.goes_through.Given as goal

abbrev pub invariant-loop-k : goal.invariant-loop-k
invariant-loop-k l = record {
  groups : GroupsTo l.groups l.path l.rules.ranked.items l.k;
  count : l.count ≡ next_new (take l.k l.path);
  goes : goes_on (mill_by l.rules) l.rules.ranked.items [] l.path ≡ goes_on (mill_by l.rules)
      l.rules.ranked.items (take l.k l.path) (drop l.k l.path);
}
