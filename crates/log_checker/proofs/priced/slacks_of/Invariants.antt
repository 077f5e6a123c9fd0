use Rattle.std.proofs.Common.{◌≡◌, ◌<◌, ◌⊎◌, ℕ, length, All, pos, get_or, map, drop}
use Rattle.list_laws.proofs.Among.{Among}
use Rattle.set_minima.specs.Cells.{IsSmall, slack_limit}
use Rattle.log_checker.specs.Keys.{group_in}
use Rattle.log_checker.specs.Slacks.{slack_of}
use Rattle.log_checker.proofs.priced.slacks_of.Given as goal

abbrev pub invariant-loop-i : goal.invariant-loop-i
invariant-loop-i l = record {
  long : length l.slacks.items ≡ length l.path.groups.items;
  small : All (IsSmall slack_limit) l.slacks.items;
  each : (g : ℕ) → g < length l.path.groups.items →
      (get_or l.slacks.items g (pos 0) ≡ slack_of l.path l.prices g)
      ⊎ Among g (map group_in (drop l.i l.live));
}
