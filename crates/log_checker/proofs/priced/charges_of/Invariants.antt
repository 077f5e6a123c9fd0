use Rattle.std.proofs.Common.{◌≡◌, ◌*◌, ◌<◌, ℕ, pos, length, All, get_or}
use Rattle.set_minima.specs.Cells.{IsSmall, slack_limit}
use Rattle.log_checker.specs.ByRules.{charge_by}
use Rattle.log_checker.specs.PathGroups.{group_of}
use Rattle.log_checker.proofs.priced.charges_of.Given as goal

abbrev pub invariant-loop-g : goal.invariant-loop-g
invariant-loop-g l = record {
  long : length l.slacks.items ≡ l.g;
  small : All (IsSmall slack_limit) l.slacks.items;
  each : (g : ℕ) → g < l.g → get_or l.slacks.items g (pos 0)
      ≡ pos (60 * charge_by l.path.rules.now (group_of l.path g).load);
}
