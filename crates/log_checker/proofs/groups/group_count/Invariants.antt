use Rattle.std.proofs.Common.{◌≡◌, ◌≤◌, drop, max}
use Rattle.mill_model.specs.Tree.{next_new}
use Rattle.log_checker.proofs.groups.group_count.Given as goal

abbrev pub invariant-loop-number : goal.invariant-loop-number
invariant-loop-number l =
    record {
      is : next_new l.path ≡ max l.count (next_new (drop l.number-index l.path));
      few : l.count ≤ 65536;
    }
