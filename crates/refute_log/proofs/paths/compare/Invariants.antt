use Rattle.std.proofs.Common.{◌≡◌, ◌≤◌, drop, length}
use Rattle.refute_log.specs.Rising.{path_order}
use Rattle.refute_log.proofs.paths.compare.Given as goal

abbrev pub invariant-loop-i : goal.invariant-loop-i
invariant-loop-i l =
    record {
      is : path_order l.a l.b ≡ path_order (drop l.i l.a) (drop l.i l.b);
      within : l.i ≤ length l.b;
    }
