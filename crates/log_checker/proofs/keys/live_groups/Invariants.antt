use Rattle.std.proofs.Common.{◌≡◌, All, filter, map}
use Rattle.list_laws.specs.Sets.{below}
use Rattle.log_checker.specs.PathGroups.{group_of, later}
use Rattle.log_checker.specs.Live.{lives}
use Rattle.log_checker.specs.ByRules.{mill_by}
use Rattle.log_checker.specs.Keys.{IsKey, group_in}
use Rattle.log_checker.proofs.keys.live_groups.Given as goal

abbrev pub invariant-loop-g : goal.invariant-loop-g
invariant-loop-g l = record {
  numbers :
      map group_in l.live.items ≡ filter (λ g. lives (mill_by l.path.rules.now)
      (later l.path) (group_of l.path g)) (below l.g);
  keys : All (λ live. IsKey (later l.path)
      (group_of l.path live.group) live.key) l.live.items;
}
