use Rattle.std.proofs.Common.{◌≡◌, ◌≤◌, ◌*◌, cond}
use Rattle.list_laws.specs.Sets.{total}
use Rattle.mill_model.specs.declared.charges.TheConstants.{MAX_CHARGE}
use Rattle.log_checker.specs.ByRules.{mill_by, charge_by}
use Rattle.log_checker.specs.Live.{lives}
use Rattle.log_checker.specs.PathGroups.{group_of, later}
use Rattle.log_checker.proofs.grouped_path.GroupedPath.dead_charge.Given as goal

abbrev pub invariant-loop-g : goal.invariant-loop-g
invariant-loop-g l =
    record {
      is : l.sum ≡ total l.g (λ g. cond (lives (mill_by l.self.rules.now) (later l.self)
          (group_of l.self g)) 0 (charge_by l.self.rules.now (group_of l.self g).load));
      small : l.sum ≤ l.g * MAX_CHARGE;
    }
