use Rattle.std.proofs.Common.{length, rules}
use Rattle.log_checker.proofs.GroupsOfPath.{filled, path-within, numbers-few}
use Rattle.log_checker.proofs.grouped_path.GroupedPath.in_tree.Goals as goal

pub goes_through-requires-clause-within : goal.goes_through-requires-clause-within
goes_through-requires-clause-within c =
    path-within (length c.args.rules.now.ranked.items) c.args.path.now c.requires

pub invariant_of-result : goal.invariant_of-result
invariant_of-result c =
    record {
      within = path-within (length c.args.rules.now.ranked.items) c.args.path.now c.requires;
      few = numbers-few (length c.args.rules.now.ranked.items) c.args.path.now c.requires;
      grouped = filled c.goes_through.new.groups c.in_ok-groups.groups.items c.args.path.now
          c.in_ok-groups.groups.len c.args.rules.now.ranked.items
          (c.in_ok-inside.ensures.groups c.if-not-inside.false) (search rules);
    }
