use Rattle.std.proofs.Common.{◌≤◌, length}
use Rattle.greedy_start.proofs.tests.instance_of.Given as goal

abbrev pub invariant-loop : goal.invariant-loop
invariant-loop l = length l.orders.items ≤ l.counter
