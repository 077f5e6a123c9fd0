use Rattle.std.proofs.Common.{◌≡◌, ◌*◌, ◌≤◌}
use Rattle.list_laws.specs.Sets.{total}
use Rattle.mill_model.specs.declared.charges.TheConstants.{MAX_CHARGE}
use Rattle.log_checker.specs.ByRules.{charge_by}
use Rattle.log_checker.specs.PathGroups.{group_of}
use Rattle.log_checker.proofs.grouped_path.GroupedPath.charge.Given as goal

abbrev pub invariant-loop-g : goal.invariant-loop-g
invariant-loop-g l =
    record {
      is : l.sum ≡ total l.g (λ g. charge_by l.self.rules.now (group_of l.self g).load);
      small : l.sum ≤ l.g * MAX_CHARGE;
    }
