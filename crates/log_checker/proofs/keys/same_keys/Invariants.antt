use Rattle.std.proofs.Common.{◌≡◌, drop}
use Rattle.log_checker.specs.Keys.{same_keys}
use Rattle.log_checker.proofs.keys.same_keys.Given as goal

abbrev pub invariant-loop-i : goal.invariant-loop-i
invariant-loop-i l = same_keys l.a l.b ≡ same_keys (drop l.i l.a) (drop l.i l.b)
