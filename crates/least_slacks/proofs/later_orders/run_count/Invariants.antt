use Rattle.std.proofs.Common.{◌≤◌}
use Rattle.list_laws.specs.Sets.{different}
use Rattle.least_slacks.proofs.ColoursCounted.{colours_to}
use Rattle.least_slacks.proofs.later_orders.run_count.Given as goal

abbrev pub invariant-loop-t : goal.invariant-loop-t
invariant-loop-t l = record {
  few : different (colours_to l.items l.t) ≤ l.count;
  small : l.count ≤ l.t;
}
