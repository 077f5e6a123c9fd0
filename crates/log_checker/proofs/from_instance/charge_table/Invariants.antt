use Rattle.std.proofs.Common.{◌≡◌, take}
use Rattle.log_checker.proofs.from_instance.charge_table.Given as goal

abbrev pub invariant-loop-load : goal.invariant-loop-load
invariant-loop-load l = l.table.items ≡ take l.load l.charges.list
